pub mod Count
pub mod Draft
pub mod Late
pub mod Making
pub mod Plan
pub mod Rules
pub mod Start
pub mod Trail
