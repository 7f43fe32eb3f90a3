pub mod Events
pub mod Blocks
pub use Rattle.crif_reader.specs as CrifReader
pub use Rattle.feed_reader.specs as FeedReader
pub use Rattle.set_core.specs as SetCore
