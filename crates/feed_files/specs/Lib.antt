pub mod Sources
pub mod Unrun
pub mod Ends
pub mod Fed
pub use Rattle.command_files.specs as CommandFiles
