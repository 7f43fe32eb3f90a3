pub mod Faults
pub mod Limits
pub mod Told
pub mod Source
pub mod Sink
pub mod Folder
pub mod Memory
pub mod Lines
pub mod Lined
pub mod LinesSteps
pub use Rattle.mh_units.specs as MhUnits
