pub mod Negated
pub mod Turned
pub mod Sides
