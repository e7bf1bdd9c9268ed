mod Lists
mod Repeats
mod TurnRows
mod Watching
mod Spanning
mod Following
mod Taking
mod MarkPlaces
mod Lingering
mod Names
mod Readiness
mod Equal
mod GoingOn
mod Moving
mod Sweeping
pub mod StandingLaws
