pub mod Notices
pub mod Desks
pub mod Complete
pub mod Fed
pub mod Accounts
pub mod Audits
pub mod Run
pub mod RunStages
