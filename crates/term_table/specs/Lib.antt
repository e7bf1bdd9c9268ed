pub mod Keys
pub mod Built
pub mod Tables
pub mod Looked
pub mod Staged
pub mod Published
pub mod Laws
