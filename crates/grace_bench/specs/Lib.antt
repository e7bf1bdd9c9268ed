pub mod Used
pub mod Holding
pub mod Waiting
