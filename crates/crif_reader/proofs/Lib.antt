pub mod All
pub mod Places
pub mod Gathered
pub mod TextFields
pub mod NotedRows
pub mod Onces
pub mod Placed
pub mod GoodRows
pub mod Batches
pub mod Runs
pub use Rattle.crif_records.proofs as CrifRecords
pub use Rattle.crif_records.proofs.MhUnits as MhUnits
pub use Rattle.crif_records.proofs.SimmKinds as SimmKinds
