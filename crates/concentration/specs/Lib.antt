pub use Rattle.simm_rules.specs.MhUnits as MhUnits
pub use Rattle.simm_rules.specs as SimmRules
