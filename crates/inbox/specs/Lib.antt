pub mod Dealings
pub mod Ends
pub mod Queues
