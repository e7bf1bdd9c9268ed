pub mod Mirrored
pub mod Reading
pub mod Exporting
pub mod Seeing
