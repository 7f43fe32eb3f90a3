pub mod SourceLemmas
pub mod LongLines
pub mod FedLemmas
pub mod EndLemmas
pub use Rattle.command_files.proofs as CommandFiles
