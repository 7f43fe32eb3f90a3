pub mod Alone
pub mod Behind
pub mod Asking
pub mod Ends
pub mod Complete
