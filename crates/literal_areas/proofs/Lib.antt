pub mod Uses
pub mod Serials
mod FreeBlocks
mod Owners
pub mod AtFirst
mod Stores
mod WordByWord
mod Retired
mod Doomed
pub mod Listed
mod Freed
mod Finding
