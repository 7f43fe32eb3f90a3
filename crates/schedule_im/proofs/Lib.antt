pub mod Adding
pub mod Costs
pub mod Sizes
