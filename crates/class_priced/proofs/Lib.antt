pub mod PricedNames
pub mod VolatileNames
pub mod NameSums
pub mod NameColumns
pub mod PricedValues
