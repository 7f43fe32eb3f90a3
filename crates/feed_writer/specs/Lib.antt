pub mod Lines
pub mod Messages
pub mod Conditions
pub mod ReadsBack
pub use Rattle.crif_writer.specs as CrifWriter
pub use Rattle.feed_reader.specs as FeedReader
