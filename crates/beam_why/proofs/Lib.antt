mod Commands
mod GoingOn
mod Replays
pub mod Verdicts
