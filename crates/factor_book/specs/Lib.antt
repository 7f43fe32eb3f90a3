pub mod Address
pub mod Place
pub mod Factors
pub mod Places
pub mod Value
pub mod Holdings
pub mod Filing
pub mod Netting
pub use Rattle.simm_rules.specs.MhUnits as MhUnits
pub use Rattle.simm_rules.specs.SimmKinds as SimmKinds
pub use Rattle.simm_rules.specs as SimmRules
