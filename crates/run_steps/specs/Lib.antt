pub mod Stands
pub mod Turns
pub mod MadeTurns
pub mod Standing
