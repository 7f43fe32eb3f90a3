pub mod Maps
pub mod HeldRows
pub mod Ranges
pub mod Books
pub mod Admitted
pub mod Sizes
pub mod Puts
pub mod Parameters
pub mod Lives
pub mod Moves
pub mod Gaining
pub mod Exchanges
pub mod AddOnOrder
pub mod Keeping
pub mod Standing
pub mod Batches
pub mod Replaced
pub mod Copies
pub mod Working
pub mod Gone
pub use Rattle.book_margin.proofs.ClassMargin as ClassMargin
pub use Rattle.book_margin.proofs.FactorBook as FactorBook
