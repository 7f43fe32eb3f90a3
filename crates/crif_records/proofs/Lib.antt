pub mod Binds
pub mod RecordsLeft
pub mod PlainReads
pub mod PlainAscii
pub mod Quotes
pub mod Marks
pub mod FieldsAt
pub mod AsciiFields
pub use Rattle.simm_kinds.proofs.MhUnits as MhUnits
pub use Rattle.simm_kinds.proofs as SimmKinds
