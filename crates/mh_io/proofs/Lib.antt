pub mod TakesLemmas
pub mod FaultsLemmas
pub mod MemoryLemmas
pub mod FolderLemmas
pub mod LinesPieces
pub mod LinesRuns
pub mod LinesLooks
pub mod LinesTaken
pub mod LinesStops
pub mod LinesGiven
pub use Rattle.mh_units.proofs as MhUnits
