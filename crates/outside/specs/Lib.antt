pub mod Answers
pub mod Inputs
pub mod Memory
pub mod Outside
pub mod Parting
pub mod Transfer
