pub mod Holdings
pub mod Booked
pub mod Changes
pub mod Refusals
pub mod Sorting
pub mod Kept
pub use Rattle.csa_terms.specs.MhUnits as MhUnits
pub use Rattle.csa_terms.specs.SimmKinds as SimmKinds
pub use Rattle.csa_terms.specs as CsaTerms
