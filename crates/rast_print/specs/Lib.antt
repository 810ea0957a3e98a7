pub mod Joined
pub mod LinearText
pub mod FormulaText
pub mod TypeText
pub mod ProcessText
pub mod FileText
pub mod Readable
