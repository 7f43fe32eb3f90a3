pub mod Amounts
pub mod Parts
pub mod Rows
pub mod Text
