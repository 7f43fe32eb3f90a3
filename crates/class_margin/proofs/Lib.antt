pub mod delta
pub mod vega
pub mod volatility
pub mod Valued
pub mod Alone
pub use Rattle.class_rates.proofs.MhUnits as MhUnits
pub use Rattle.class_rates.proofs.SimmKinds as SimmKinds
pub use Rattle.class_rates.proofs.SimmParams as SimmParams
pub use Rattle.class_rates.proofs.FactorBook as FactorBook
pub use Rattle.class_rates.proofs.PairSums as PairSums
pub use Rattle.class_rates.proofs.WeightedBucket as WeightedBucket
pub use Rattle.class_rates.proofs as ClassRates
pub use Rattle.class_rates.proofs.MeasuredBucket as MeasuredBucket
pub use Rattle.class_credit.proofs as ClassCredit
pub use Rattle.class_priced.proofs as ClassPriced
pub use Rattle.class_exchange.proofs as ClassExchange
pub use Rattle.book_range.proofs as BookRange
pub use Rattle.negated_book.proofs as NegatedBook
