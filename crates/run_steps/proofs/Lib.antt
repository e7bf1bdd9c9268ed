pub mod TurnDefinition
pub mod Turning
pub mod Joining
pub mod Ends
pub mod MadeTurns
pub mod Finished
