pub mod Agreement
pub mod Permit
pub mod Book
