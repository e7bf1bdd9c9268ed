-- Laws of the scan of a term's text: what it takes, where it stops, and that it takes no other text.
pub mod Faults
pub mod Rests
pub mod Runs
pub mod Sound
pub mod Steps
pub mod Terms
