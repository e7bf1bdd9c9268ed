pub mod Decoding
pub mod Draft
pub mod Module
pub mod ModuleImage
pub mod ModulePlaces
pub mod Valid
pub mod HeldNames
