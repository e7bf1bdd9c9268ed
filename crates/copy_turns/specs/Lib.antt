pub mod Copiers
pub mod Holdings
pub mod Laws
pub mod Rule
pub mod Seats
pub mod Steps
pub mod Turns
