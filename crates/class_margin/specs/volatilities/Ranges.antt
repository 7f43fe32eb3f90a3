-- The volatilities of a bucket of a book in range.
pub use Rattle.class_rates.specs.MeasuredBucket.Values.{alone}
pub use Rattle.class_exchange.specs.Pairs.{ArePairsInRange}
