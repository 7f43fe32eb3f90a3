pub mod Kept
pub mod Touched
pub mod Dirty
pub use Rattle.factor_book.specs.MhUnits as MhUnits
pub use Rattle.factor_book.specs.SimmKinds as SimmKinds
pub use Rattle.factor_book.specs.SimmRules as SimmRules
pub use Rattle.factor_book.specs as FactorBook
