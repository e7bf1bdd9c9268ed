pub mod Modules
pub mod ModuleTable
