pub mod Classes
pub mod Whole
pub mod Multipliers
pub mod Summed
pub mod Notionals
pub mod Sums
