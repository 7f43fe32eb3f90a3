pub mod Calc
pub mod RefusalLine
pub mod Complete
pub use Rattle.command_files.specs as CommandFiles
