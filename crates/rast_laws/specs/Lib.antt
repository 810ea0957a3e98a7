pub mod Typed
pub mod Sound
