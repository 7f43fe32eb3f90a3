pub mod Zips
pub mod Supplies
pub mod SourceLines
