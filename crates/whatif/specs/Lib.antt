pub mod Faults
pub mod Asked
pub use Rattle.bucket_cache.specs as BucketCache
