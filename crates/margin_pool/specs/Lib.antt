pub mod PoolText
pub mod Pooled
pub mod Pool
pub mod PoolStages
pub mod Complete
pub use Rattle.pool_feed.specs as PoolFeed
