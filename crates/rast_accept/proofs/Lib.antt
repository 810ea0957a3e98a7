pub mod Reasons
pub mod Made
pub mod Clear
pub mod Counting
pub mod Formed
