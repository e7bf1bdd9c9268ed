pub mod Spots
pub mod Standing
pub mod Others
pub mod AtFirst
mod Publishing
pub mod Roots
mod Decided
mod Entered
mod Switching
mod PhaseSteps
mod SwitchCalls
mod PatchCalls
mod Clears
mod Looking
mod Told
mod TakenBack
mod ClearedBlocks
