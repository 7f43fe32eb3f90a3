pub use Rattle.set_core.proofs as SetCore
