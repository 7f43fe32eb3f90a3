pub mod Table
pub mod Parts
pub mod Across
pub mod value
pub mod rates_delta
pub mod names_delta
pub mod volatilities
pub mod vega
pub mod curvature
pub mod delta
pub mod volatility
pub use Rattle.class_rates.specs.MhUnits as MhUnits
pub use Rattle.class_rates.specs.SimmKinds as SimmKinds
pub use Rattle.class_rates.specs.SimmRules as SimmRules
pub use Rattle.class_rates.specs.SimmParams as SimmParams
pub use Rattle.class_rates.specs.FactorBook as FactorBook
pub use Rattle.class_rates.specs.PairSums as PairSums
pub use Rattle.class_rates.specs.WeightedBucket as WeightedBucket
pub use Rattle.class_rates.specs as ClassRates
pub use Rattle.class_rates.specs.MeasuredBucket as MeasuredBucket
pub use Rattle.class_credit.specs as ClassCredit
pub use Rattle.class_priced.specs as ClassPriced
pub use Rattle.class_exchange.specs as ClassExchange
pub use Rattle.book_range.specs as BookRange
pub use Rattle.negated_book.specs as NegatedBook
