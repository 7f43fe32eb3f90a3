pub mod Currencies
pub mod Pairs
pub mod Unweighed
