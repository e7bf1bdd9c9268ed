pub mod ReadParts
pub mod ScriptParts
pub mod Taken
pub mod Written
