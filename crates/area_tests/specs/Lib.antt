pub mod Gone
pub mod Keyed
pub mod Many
pub mod Several
pub mod Three
pub mod Work
