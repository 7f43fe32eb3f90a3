pub mod CallRule
