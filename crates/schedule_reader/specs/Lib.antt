pub mod Reads
pub mod Faults
pub mod Columns
pub mod Fields
pub mod Row
pub mod Grammar
pub use Rattle.crif_records.specs.MhUnits as MhUnits
pub use Rattle.schedule_im.specs as ScheduleIm
