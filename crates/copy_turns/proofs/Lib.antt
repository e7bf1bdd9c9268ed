pub mod Joins
pub mod LastHolders
pub mod StateLaws
pub mod Steps
pub mod Sums
pub mod TriedSeats
pub mod TurnCases
