pub mod Answer
pub mod Questions
pub mod Decided
pub mod Formed
pub mod Lifted
pub mod Refusals
pub mod Walk
pub mod Shown
