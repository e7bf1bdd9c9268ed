pub mod Indices
pub mod Patches
pub mod Switched
pub mod Decisions
pub mod Laws
