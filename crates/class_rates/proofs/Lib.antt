pub mod Currencies
pub mod RatePlaces
pub mod VolatilityPlaces
pub mod Rhos
pub mod Sums
pub mod Correlated
pub mod Columns
pub mod RateColumns
pub mod VolatilityColumns
pub use Rattle.measured_bucket.proofs.MhUnits as MhUnits
pub use Rattle.measured_bucket.proofs.SimmKinds as SimmKinds
pub use Rattle.measured_bucket.proofs.SimmParams as SimmParams
pub use Rattle.measured_bucket.proofs.FactorBook as FactorBook
pub use Rattle.measured_bucket.proofs.PairSums as PairSums
pub use Rattle.measured_bucket.proofs.WeightedBucket as WeightedBucket
pub use Rattle.measured_bucket.proofs as MeasuredBucket
