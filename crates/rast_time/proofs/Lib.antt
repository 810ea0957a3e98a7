pub mod Arguments
pub mod Delays
pub mod Shifts
