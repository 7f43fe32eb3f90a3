pub mod Callers
pub mod Orders
pub mod FeedCalls
pub mod Journals
pub mod Accepted
pub mod SetFed
pub mod RunFeeds
pub mod Summaries
