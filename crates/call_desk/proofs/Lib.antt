pub mod Tellings
pub mod Outcomes
