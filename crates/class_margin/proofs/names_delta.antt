pub mod Parts
pub mod Empty
pub mod Shrinking
pub mod ValueSized
pub mod Told
