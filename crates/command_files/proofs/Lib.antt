pub mod FileLemmas
pub mod AfterParamsLemmas
pub mod InputsLemmas
pub mod KnownFiles
pub mod PrintLemmas
pub mod TextLemmas
