pub mod Mets
pub mod SeatSteps
pub mod Feeds
pub mod Ended
pub mod Starting
pub mod Gathering
pub mod Fates
