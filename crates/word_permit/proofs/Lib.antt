pub mod Resting
mod Patches
mod TraceCode
pub mod Growing
pub mod SpawnedBefore
pub mod Answered
mod AreaLooks
pub mod Awaiting
pub mod Kept
pub mod Ended
pub mod Settling
pub mod Went
pub mod Calls
pub mod Noted
pub mod Quiet
pub mod Freed
pub mod Followed
pub mod Runs
pub mod Looked
pub mod Told
pub mod OldCode
pub mod Dropped
pub mod Replies
pub mod Lingered
pub mod PurgeCommands
pub mod PurgeCalls
pub mod Switched
pub mod Grown
mod PumpedThrough
mod PushedLists
