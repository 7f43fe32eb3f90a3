pub mod Names
pub mod Repeated
pub mod Variants
pub mod Orders
pub mod Letters
pub mod PlainText
pub mod Rows
pub use Rattle.mh_units.proofs as MhUnits
