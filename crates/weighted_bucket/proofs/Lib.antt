pub mod Passing
pub mod Correlations
pub mod WeightedSums
pub mod Groups
pub mod OverKeys
pub mod Kept
pub use Rattle.concentration.proofs as Concentration
pub use Rattle.pair_sum.proofs as PairSums
