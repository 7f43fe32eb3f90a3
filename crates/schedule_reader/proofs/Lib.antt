pub mod TextFields
pub mod Runs
