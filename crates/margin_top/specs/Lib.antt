pub mod Words
pub mod WordsRead
pub mod Complete
pub mod House
