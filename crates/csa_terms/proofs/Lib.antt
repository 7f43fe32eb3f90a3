mod Tables
mod BusinessDays
mod CalendarDays
mod Loops
mod Holidays
mod PrintedDays
pub use Rattle.toml_values.proofs.MhUnits as MhUnits
