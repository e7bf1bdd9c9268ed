pub mod Blank
pub mod Leading
pub mod Running
