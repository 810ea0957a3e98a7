pub mod Answers
pub mod Scopes
pub mod Linears
pub mod Formulas
pub mod Variables
