pub mod Tokens
pub mod Reports
pub mod Leads
pub mod Advances
pub mod Delays
pub mod Needs
pub mod Roots
