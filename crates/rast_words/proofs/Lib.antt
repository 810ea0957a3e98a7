pub mod Faultless
pub mod MatchedLemmas
pub mod SubcommandLemmas
