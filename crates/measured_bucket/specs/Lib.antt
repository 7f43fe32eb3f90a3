pub mod Values
pub mod Explained
pub mod Measured
pub mod Scale
pub mod Risk
pub mod Runs
pub mod Alone
pub mod Vega
pub use Rattle.simm_params.specs.MhUnits as MhUnits
pub use Rattle.simm_params.specs.SimmKinds as SimmKinds
pub use Rattle.simm_params.specs.SimmRules as SimmRules
pub use Rattle.simm_params.specs as SimmParams
pub use Rattle.factor_book.specs as FactorBook
pub use Rattle.weighted_bucket.specs.PairSums as PairSums
pub use Rattle.weighted_bucket.specs as WeightedBucket
