pub mod Anchors
pub mod Dropped
pub mod InOrder
pub mod MemberSteps
pub mod Opening
pub mod Stores
pub mod WriterSteps
