pub mod Shapes
pub mod Places
pub use Rattle.simm_kinds.proofs.MhUnits as MhUnits
