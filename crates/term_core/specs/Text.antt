-- The words in which readers of texts say what they read.
pub mod Cuts
pub mod Numbers
pub mod Parts
pub mod Steps
pub mod Words
