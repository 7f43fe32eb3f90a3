pub mod ValueSized
pub mod ValueParts
pub mod RateClass
pub mod RateBuckets
pub mod Bounded
pub mod Idle
