pub mod Correlated
pub mod Bucket
pub mod Group
pub mod Changed
pub use Rattle.pair_sum.specs as PairSums
