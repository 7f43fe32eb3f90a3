pub mod Cuts
pub mod WrittenLines
pub mod LineFields
pub mod Moments
pub mod Values
pub mod Readings
pub mod Reading
pub mod Blocks
pub mod Batches
pub mod GivenFields
pub mod GivenMoments
pub mod GivenLines
pub mod GivenBlocks
pub mod GivenWords
pub mod GivenMessages
pub use Rattle.crif_reader.proofs as CrifReader
