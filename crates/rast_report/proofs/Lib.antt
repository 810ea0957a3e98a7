pub mod Shows
pub mod TraceLemmas
pub mod Finding
pub mod Advancing
