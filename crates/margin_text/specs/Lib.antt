pub mod Rows
pub mod Journal
pub mod Feeds
