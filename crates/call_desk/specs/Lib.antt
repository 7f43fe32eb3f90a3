pub mod Desk
pub mod Publish
pub mod Memory
pub mod Text
