pub mod Hits
pub mod Joins
pub mod Steps
pub mod Sums
pub mod Totals
