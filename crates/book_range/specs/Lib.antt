pub mod Bounded
pub mod Weights
pub mod Weighing
pub mod Gross
pub mod Sizes
pub mod Faults
pub mod After
pub mod Firsts
