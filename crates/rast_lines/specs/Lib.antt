pub mod Places
pub mod NewNames
pub mod Naming
pub mod Numbers
pub mod Scopes
pub mod Lines
