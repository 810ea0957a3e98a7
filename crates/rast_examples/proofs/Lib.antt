mod Ordered
mod Configured
mod Ran
pub mod Heads
mod Viewed
