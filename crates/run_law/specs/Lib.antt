pub mod Published
pub mod Reading
pub mod Answers
pub mod Newcomers
pub mod Observing
pub mod Ended
pub mod Ends
pub mod Laws
