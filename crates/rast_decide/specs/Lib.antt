pub mod Lines
pub mod Decides
