pub mod Paths
pub mod Answers
pub mod Ranges
pub mod Values
pub mod Places
pub mod Document
pub use Rattle.simm_kinds.specs.MhUnits as MhUnits
pub use Rattle.simm_kinds.specs as SimmKinds
