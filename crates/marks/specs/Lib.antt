pub mod Names
pub mod Kept
pub mod Steps
pub mod InOrder
