pub mod Values
pub mod Part
pub mod Listed
pub mod Numbered
pub mod Combine
