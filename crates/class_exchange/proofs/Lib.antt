pub mod ByCategory
pub mod RiskyCurrencies
pub mod CurrencyColumns
pub mod VolatilePairs
pub mod SumsOfPairs
pub mod Thresholds
pub mod PairColumns
pub mod PairValues
