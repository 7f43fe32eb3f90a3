pub mod Range
pub mod Gamma
pub mod Parts
