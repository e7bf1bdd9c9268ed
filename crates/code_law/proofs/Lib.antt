pub mod States
pub mod ServedAreas
