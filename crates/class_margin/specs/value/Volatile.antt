-- The factors of a bucket on the side of volatility, which vega and curvature weigh.
-- (ISDA SIMM methodology, vega and curvature: definition of the sensitivities.)
use Rattle.std.specs.Prelude.{ℕ, List, length, pos, IsSomeAnd}
use Rattle.class_rates.specs.SimmKinds.declared.key.FactorKey.{FactorKey}
use Rattle.class_rates.specs.SimmRules.Params.{Params}
use Rattle.class_rates.specs.SimmRules.Credit.{credit_params}
use Rattle.class_rates.specs.SimmRules.Priced.{priced_params, names_of}
use Rattle.class_rates.specs.SimmRules.ForeignExchange.{pairs_of}
use Rattle.class_rates.specs.SimmParams.ListedBuckets.{credit_bucket_of, priced_bucket_of}
use Rattle.class_rates.specs.FactorBook.declared.holding.Holding.{Holding}
use Rattle.class_rates.specs.Volatilities.{volatilities_among, AreVolatilities}
use Rattle.class_credit.specs.Points.{point_nets, ArePoints}
use Rattle.class_priced.specs.Names.{volatility_nets, AreNameVolatilities}
use Rattle.class_exchange.specs.Pairs.{pair_nets, ArePairs}
use Rattle.class_rates.specs.FactorBook.declared.slot.Slot.{Slot}
use Rattle.class_rates.specs.FactorBook.declared.slot.Slot.TheVariants as slot

-- that can be measured, of a bucket that the file lists where its class has such
abbrev pub IsVolatileReady : Params → Slot → List (FactorKey × Holding) → Type 0
IsVolatileReady p (slot.Rates currency) its = AreVolatilities (volatilities_among currency its)
IsVolatileReady p (slot.Credit class at) its = IsSomeAnd (credit_bucket_of (credit_params p class).buckets at) (λ b. ArePoints (pos 10000) (point_nets its))
IsVolatileReady p (slot.Priced class at) its = IsSomeAnd (priced_bucket_of (priced_params p class).buckets at) (λ b. AreNameVolatilities b.sigma (volatility_nets its))
IsVolatileReady p slot.Exchange its = ArePairs p (pair_nets its)

-- how many factors it has: a name's volatilities are one, and so are a pair's
abbrev pub volatile_count : Slot → List (FactorKey × Holding) → ℕ
volatile_count (slot.Rates currency) its = length (volatilities_among currency its)
volatile_count (slot.Credit class at) its = length (point_nets its)
volatile_count (slot.Priced class at) its = length (names_of (volatility_nets its))
volatile_count slot.Exchange its = length (pairs_of (pair_nets its))
