pub mod Sessions
pub mod Configurations
pub mod Runs
pub mod Views
