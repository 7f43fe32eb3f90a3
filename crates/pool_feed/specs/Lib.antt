pub mod Values
pub mod Requests
pub mod Items
pub mod Answers
pub use Rattle.feed_reader.specs as FeedReader
