pub mod Lists
pub mod Sums
pub mod Values
pub mod Wholes
pub mod Buckets
pub mod Gammas
pub mod Standing
