pub mod Dealing
pub mod Ties
