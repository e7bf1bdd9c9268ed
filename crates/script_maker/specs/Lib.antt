pub mod Generator
pub mod MadeScript
