pub mod Matrices
pub mod Parameters
pub mod Agreements
pub mod Draws
pub mod Trades
pub mod Feeds
pub use Rattle.crif_writer.specs as CrifWriter
