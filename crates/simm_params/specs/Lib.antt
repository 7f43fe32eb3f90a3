pub mod Ranges
pub mod Listed
pub mod Fx
pub mod FxRanges
pub mod FxView
pub mod FxLookups
pub mod RateUnits
pub mod Square
pub mod Matrix
pub mod ClassParts
pub mod Symmetry
pub mod Thresholds
pub mod ThresholdKinds
pub mod Thickness
pub mod ThresholdView
pub mod GroupView
pub mod IrRanges
pub mod IrView
pub mod Buckets
pub mod BucketIndex
pub mod BucketView
pub mod Categories
pub mod TablesView
pub mod Facts
pub mod Classes
pub mod ClassRanges
pub mod ClassView
pub mod ListedBuckets
pub mod RateLookups
pub mod Grouped
pub mod Weighed
pub use Rattle.simm_rules.specs.MhUnits as MhUnits
pub use Rattle.simm_rules.specs.SimmKinds as SimmKinds
pub use Rattle.simm_rules.specs as SimmRules
pub use Rattle.toml_values.specs as TomlValues
