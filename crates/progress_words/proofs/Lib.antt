mod Tokens
mod Confirming
mod Scanning
mod Passing
mod Raising
mod Noting
mod Slots
pub mod Rooted
