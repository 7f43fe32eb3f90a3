pub mod Faults
pub mod Currencies
pub mod KeyRate
pub mod Fx
pub mod FxRanges
pub mod Matrix
pub mod BucketClass
pub mod Symmetry
pub mod Thresholds
pub mod Thickness
pub mod Groups
pub mod IrRate
pub mod Ir
pub mod IrRanges
pub mod TablesRanges
pub mod Grammar
pub mod Classes
pub mod ClassRanges
pub mod Texts
pub use Rattle.simm_params.specs.SimmRules as SimmRules
pub use Rattle.simm_params.specs.TomlValues as TomlValues
