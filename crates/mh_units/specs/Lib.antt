pub mod Rounding
pub mod Least
pub mod Cut
pub mod Grammar
pub mod Scan
pub mod Numeral
pub mod Money
