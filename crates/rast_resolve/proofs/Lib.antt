pub mod Places
pub mod Chains
pub mod Faults
pub mod TypeLayers
pub mod Weights
pub mod TermLayers
pub mod NameLayers
pub mod Loops
pub mod Scoped
pub mod Heads
pub mod Made
mod Executed
