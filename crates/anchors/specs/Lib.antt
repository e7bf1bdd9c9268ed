pub mod Holds
pub mod Drops
pub mod Turns
pub mod Scans
