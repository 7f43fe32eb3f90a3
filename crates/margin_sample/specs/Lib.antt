pub mod Feeds
pub mod Calls
pub mod Sets
pub mod Sample
