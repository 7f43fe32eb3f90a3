pub mod Reports
pub mod Names
pub mod Feeds
pub mod OneSet
pub mod EachSet
pub mod ManyFeeds
pub mod Starting
pub mod Shares
pub mod Closings
pub mod Sources
pub use Rattle.feed_events.proofs.SetCore as SetCore
