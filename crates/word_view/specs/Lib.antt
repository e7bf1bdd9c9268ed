pub mod Anchored
pub mod Views
pub mod Loaded
pub mod Turned
pub mod Laws
pub mod Laps
