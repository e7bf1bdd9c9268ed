pub mod Exports
pub mod Staging
pub mod Copied
pub mod Committed
pub mod Laws
