pub mod Replies
pub mod Met
pub mod Lines
pub mod Ends
pub mod Jobs
pub mod Share
pub mod PoolRun
