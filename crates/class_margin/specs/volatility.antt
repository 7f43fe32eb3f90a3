pub mod Vega
pub mod Curvature
