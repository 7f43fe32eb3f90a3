pub mod Compared
mod Listing
pub mod LeastRate
pub mod BucketLists
mod RuleLists
mod Groups
mod Correlated
mod Weighed
mod Found
mod WeighedRates
mod WeighedPairs
mod WeighedBuckets
pub mod ClassLists
pub mod Sigmas
pub use Rattle.simm_rules.proofs.MhUnits as MhUnits
pub use Rattle.simm_rules.proofs.SimmKinds as SimmKinds
pub use Rattle.simm_rules.proofs as SimmRules
pub use Rattle.toml_values.proofs as TomlValues
