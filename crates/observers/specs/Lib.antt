pub mod Watching
pub mod Observing
pub mod Laws
