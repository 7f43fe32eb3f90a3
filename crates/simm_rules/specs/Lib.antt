pub mod Params
pub mod Lookups
pub mod Sums
pub mod Net
pub mod Risks
pub mod Concentration
pub mod Bucket
pub mod Across
pub mod Curvature
pub mod Rates
pub mod Credit
pub mod Priced
pub mod ForeignExchange
pub mod BaseCorrelation
pub mod AddOns
pub mod RiskClasses
pub mod Tables
pub mod Parts
pub mod Simm
pub mod Gross
pub mod Range
pub mod RangeNumber
pub mod Admits
pub use Rattle.simm_kinds.specs.MhUnits as MhUnits
pub use Rattle.simm_kinds.specs as SimmKinds
