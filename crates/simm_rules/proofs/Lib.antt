pub mod SameTables
pub use Rattle.simm_kinds.proofs.MhUnits as MhUnits
pub use Rattle.simm_kinds.proofs as SimmKinds
