pub mod Lists
pub mod Sizes
pub mod Keys
pub mod Selected
pub mod Alike
pub mod Weighings
pub mod Thick
pub mod Scales
pub mod Curved
pub mod Listed
pub mod Valued
pub mod Columns
pub mod Counted
pub mod Explaining
pub mod Vegas
pub mod Together
pub mod Gathered
pub mod OverTenors
pub mod TotalSizes
pub mod Summing
pub mod Totals
pub use Rattle.simm_params.proofs.MhUnits as MhUnits
pub use Rattle.simm_params.proofs.SimmKinds as SimmKinds
pub use Rattle.simm_params.proofs as SimmParams
pub use Rattle.factor_book.proofs as FactorBook
pub use Rattle.weighted_bucket.proofs.Concentration as Concentration
pub use Rattle.weighted_bucket.proofs.PairSums as PairSums
pub use Rattle.weighted_bucket.proofs as WeightedBucket
