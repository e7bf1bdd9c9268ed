pub mod Begun
pub mod Leading
