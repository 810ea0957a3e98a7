pub mod EntryLemmas
pub mod ChannelLemmas
pub mod SlackLemmas
pub mod Readings
pub mod HandOver
