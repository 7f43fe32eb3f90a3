pub mod Delta
pub mod Volatile
pub mod Vega
pub mod Curvature
pub mod Place
pub mod Values
