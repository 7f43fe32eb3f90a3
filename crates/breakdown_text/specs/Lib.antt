pub mod Factors
pub mod Margins
pub use Rattle.fault_text.specs as FaultText
