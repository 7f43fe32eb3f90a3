pub mod FaultLines
pub mod VerdictLines
pub mod Verify
pub mod Complete
