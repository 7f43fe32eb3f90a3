pub mod Book
pub mod Tables
pub mod Lots
pub mod Calls
pub mod Sides
pub mod Answer
pub mod Events
pub mod Room
pub mod Set
pub mod Ledger
pub mod Lending
pub mod Live
pub mod Kept
pub mod Cached
pub mod Homes
pub mod Reserved
pub mod Text
pub use Rattle.bucket_cache.specs.SimmRules as SimmRules
pub use Rattle.held_cell.specs as HeldCell
pub use Rattle.bucket_cache.specs as BucketCache
pub use Rattle.params_file.specs as ParamsFile
