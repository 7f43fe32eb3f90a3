pub mod Untaken
pub mod Ran
