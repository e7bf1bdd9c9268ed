pub mod Processes
pub mod Sound
