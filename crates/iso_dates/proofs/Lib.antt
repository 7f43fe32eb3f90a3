pub mod Digits
pub mod DateDays
