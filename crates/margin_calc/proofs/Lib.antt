pub mod CalcLemmas
pub mod CompleteLemmas
pub use Rattle.command_files.proofs as CommandFiles
