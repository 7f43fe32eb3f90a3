pub mod Kinds
pub mod Fault
pub mod NameText
pub mod NameOrder
pub mod Currency
pub mod Pair
pub mod Words
pub mod BucketNumber
pub mod Bucket
pub mod Tenors
pub mod Factors
pub mod Order
pub mod Repeats
pub mod Batch
pub use Rattle.mh_units.specs as MhUnits
