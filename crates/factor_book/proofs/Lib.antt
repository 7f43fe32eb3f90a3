pub mod Sorting
pub mod Grouping
pub mod Sums
pub mod Keys
pub mod Addresses
pub mod Standing
pub mod Held
pub mod Netting
pub mod Filed
pub mod Placed
pub mod Sides
pub mod Buckets
pub mod Books
pub mod Rows
pub mod Nets
pub mod Leaving
pub use Rattle.simm_rules.proofs.SimmKinds as SimmKinds
pub use Rattle.simm_rules.proofs as SimmRules
