pub mod Words
pub mod Lines
pub mod FaultLine
pub mod WhatIf
pub mod Complete
