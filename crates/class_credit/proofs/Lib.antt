pub mod CreditPoints
pub mod VolatilePoints
pub mod Indices
pub mod Numbers
pub mod Grouping
pub mod CreditValues
pub mod Columns
pub mod Curving
