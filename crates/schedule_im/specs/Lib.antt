pub mod EndDates
pub mod Classes
pub mod Rule
pub mod Parts
pub mod Margin
pub use Rattle.iso_dates.specs as IsoDates
pub use Rattle.simm_rules.specs.MhUnits as MhUnits
pub use Rattle.simm_rules.specs.SimmKinds as SimmKinds
