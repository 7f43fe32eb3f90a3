pub mod Points
pub mod Groups
pub mod Unweighed
pub mod Base
pub mod Listed
