pub mod Multiples
pub mod Rules
