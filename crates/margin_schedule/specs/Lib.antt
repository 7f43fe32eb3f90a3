pub mod FaultLines
pub mod MarginLines
pub mod Schedule
pub mod Complete
pub use Rattle.schedule_im.specs as ScheduleIm
