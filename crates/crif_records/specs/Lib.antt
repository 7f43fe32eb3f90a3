pub mod Binds
pub mod Records
pub mod Plain
pub mod Reading
pub mod Columns
pub mod Fields
pub use Rattle.simm_kinds.specs.MhUnits as MhUnits
pub use Rattle.simm_kinds.specs as SimmKinds
