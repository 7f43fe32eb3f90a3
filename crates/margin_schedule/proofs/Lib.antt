pub mod MarginLemmas
pub mod CompleteLemmas
