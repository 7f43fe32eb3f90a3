pub mod Values
pub mod Combine
