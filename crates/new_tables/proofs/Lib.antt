pub mod Begun
pub mod Blank
pub mod Emptied
pub mod Heading
pub mod Leading
