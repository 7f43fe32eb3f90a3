pub mod Places
pub mod Rates
pub mod Weighing
pub mod Unweighed
pub mod Volatilities
pub mod Rho
pub use Rattle.measured_bucket.specs.MhUnits as MhUnits
pub use Rattle.measured_bucket.specs.SimmKinds as SimmKinds
pub use Rattle.measured_bucket.specs.SimmRules as SimmRules
pub use Rattle.measured_bucket.specs.SimmParams as SimmParams
pub use Rattle.measured_bucket.specs.FactorBook as FactorBook
pub use Rattle.measured_bucket.specs.PairSums as PairSums
pub use Rattle.measured_bucket.specs.WeightedBucket as WeightedBucket
pub use Rattle.measured_bucket.specs as MeasuredBucket
