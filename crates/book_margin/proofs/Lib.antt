pub mod Parts
pub mod Whole
pub mod Alone
pub mod Renewed
pub mod Gathering
pub mod Untouched
pub mod Classes
pub mod Sides
pub use Rattle.kept_buckets.proofs.SimmKinds as SimmKinds
pub use Rattle.kept_buckets.proofs.FactorBook as FactorBook
pub use Rattle.class_margin.proofs as ClassMargin
