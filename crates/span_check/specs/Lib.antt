pub mod Watches
pub mod Standings
pub mod Steps
pub mod Sweeps
