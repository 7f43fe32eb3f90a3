pub mod Fault
pub mod Fields
pub mod Values
pub mod Words
pub mod Sides
pub mod Messages
pub mod Line
pub mod Feed
pub mod Answers
pub mod Steps
pub use Rattle.mh_io.specs.MhUnits as MhUnits
pub use Rattle.mh_io.specs as MhIo
pub use Rattle.side_events.specs as SideEvents
pub use Rattle.side_events.specs.CsaTerms as CsaTerms
