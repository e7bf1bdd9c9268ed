-- Laws of texts that readers of any format cite.
pub mod Cuts
pub mod Items
pub mod Numbers
pub mod Options
pub mod Parts
pub mod Reads
pub mod Starts
pub mod Words
