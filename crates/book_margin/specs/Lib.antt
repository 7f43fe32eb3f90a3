pub mod Classes
pub mod Right
pub mod Measures
pub mod Sides
pub mod Steps
pub use Rattle.kept_buckets.specs.MhUnits as MhUnits
pub use Rattle.kept_buckets.specs.SimmKinds as SimmKinds
pub use Rattle.kept_buckets.specs.SimmRules as SimmRules
pub use Rattle.kept_buckets.specs.FactorBook as FactorBook
pub use Rattle.class_margin.specs.BookRange as BookRange
pub use Rattle.kept_buckets.specs as KeptBuckets
pub use Rattle.class_combine.specs as ClassCombine
pub use Rattle.class_margin.specs.NegatedBook as NegatedBook
pub use Rattle.class_margin.specs as ClassMargin
