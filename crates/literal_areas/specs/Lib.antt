pub mod Blocks
pub mod Owned
pub mod Written
pub mod Released
pub mod Laws
