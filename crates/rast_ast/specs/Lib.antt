pub mod Kinds
pub mod Names
pub mod Written
pub mod Linear
pub mod Formulas
pub mod Types
pub mod Processes
pub mod Files
