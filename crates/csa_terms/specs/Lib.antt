pub mod Terms
pub mod Held
pub mod SetView
pub mod Calendar
pub mod Ranges
pub mod Faults
pub mod Moments
pub mod Values
pub mod Paths
pub mod Grammar
pub use Rattle.toml_values.specs.MhUnits as MhUnits
pub use Rattle.toml_values.specs.SimmKinds as SimmKinds
