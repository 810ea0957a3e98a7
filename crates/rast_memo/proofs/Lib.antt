pub mod Layers
pub mod Numbering
pub mod Telling
