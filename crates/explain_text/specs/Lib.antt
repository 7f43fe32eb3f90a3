pub mod Lines
pub mod Names
pub mod Factors
pub mod Sides
pub mod Classes
pub mod Explained
pub use Rattle.bucket_cache.specs as BucketCache
pub use Rattle.measured_bucket.specs.SimmKinds as SimmKinds
pub use Rattle.measured_bucket.specs.SimmRules as SimmRules
