pub mod Viewed
pub mod Sorted
pub mod Totals
pub mod Sums
pub mod Entries
pub mod Numbers
pub mod Shares
pub use Rattle.csa_terms.proofs.MhUnits as MhUnits
