pub mod Each
pub mod Scoping
pub mod Within
pub mod Numbering
pub mod Layers
pub mod Sizes
