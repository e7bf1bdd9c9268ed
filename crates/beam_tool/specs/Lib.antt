pub mod TopCall
pub mod ClosedTables
