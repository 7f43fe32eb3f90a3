pub mod Numbers
pub mod Calls
pub mod Sets
pub mod Run
pub mod Fates
pub mod Seats
pub mod Met
pub mod Jobs
pub mod Share
pub mod SetsRun
pub use Rattle.feed_events.specs as FeedEvents
pub use Rattle.feed_events.specs.FeedReader as FeedReader
pub use Rattle.feed_events.specs.SetCore as SetCore
