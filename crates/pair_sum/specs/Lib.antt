pub mod PairTotal
pub mod WithItself
pub mod Marked
