pub mod Reads
pub mod Faults
pub mod Columns
pub mod Fields
pub mod Factor
pub mod Row
pub mod Repeated
pub mod Noted
pub mod Trades
pub mod Growth
pub mod Grammar
pub use Rattle.crif_records.specs as CrifRecords
pub use Rattle.crif_records.specs.MhUnits as MhUnits
pub use Rattle.crif_records.specs.SimmKinds as SimmKinds
