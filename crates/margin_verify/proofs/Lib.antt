pub mod Stops
pub mod Judgings
pub mod CompleteLemmas
