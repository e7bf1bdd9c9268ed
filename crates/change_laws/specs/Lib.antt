pub mod Changes
pub mod Calls
pub mod Uses
pub mod Images
pub mod Counts
pub mod Releases
pub mod Names
pub mod Breakpoints
