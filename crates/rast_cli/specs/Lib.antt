pub mod Lines
pub mod Held
pub mod Reported
pub mod Answered
pub mod Headline
pub mod Found
pub mod WithoutRuns
pub mod Rows
