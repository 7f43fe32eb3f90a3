pub mod Live
pub mod RowsAt
pub mod Entries
pub mod Lent
pub mod Sums
pub mod Held
pub mod Cached
pub mod Figures
pub mod Worked
pub mod Without
pub use Rattle.book_margin.specs.SimmRules as SimmRules
pub use Rattle.book_margin.specs.FactorBook as FactorBook
pub use Rattle.book_margin.specs.KeptBuckets as KeptBuckets
pub use Rattle.book_margin.specs as BookMargin
