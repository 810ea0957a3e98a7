pub mod Paths
pub mod Fresh
pub mod Counting
pub mod Scoping
pub mod Finding
pub mod Children
