pub mod Runs
pub mod FrontLaws
pub mod Cuts
pub mod Unique
pub mod Answered
pub mod SeenLaws
