pub mod Filed
pub mod Touching
pub mod Sums
pub use Rattle.factor_book.proofs.SimmKinds as SimmKinds
pub use Rattle.factor_book.proofs as FactorBook
