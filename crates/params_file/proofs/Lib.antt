pub mod Each
pub mod Matrices
pub mod Mirrored
pub mod Passes
pub mod ThickIr
pub mod ThickBuckets
pub mod GroupList
mod Ranged
pub mod ClassLists
