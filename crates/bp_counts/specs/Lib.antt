pub mod Counters
pub mod Rule
pub mod Seats
pub mod Steps
pub mod Tallies
