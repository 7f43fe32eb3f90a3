pub mod Counts
pub mod Ready
pub mod Parts
pub mod Sorts
pub mod Admitted
