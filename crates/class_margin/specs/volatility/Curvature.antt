-- The curvature margin of a risk class in a product class, and what a negated book changes in the values of its buckets.
-- (ISDA SIMM methodology, curvature margin.)
use Rattle.std.specs.Prelude.{◌*◌, ◌^◌, ◌<◌, List, map, ℤ, unsigned_abs}
use Rattle.class_rates.specs.SimmKinds.declared.kinds.RiskClass.{RiskClass}
use Rattle.class_rates.specs.SimmKinds.declared.kinds.RiskClass.TheVariants as class
use Rattle.class_rates.specs.SimmRules.declared.values.BucketMargin.{BucketMargin}
use Rattle.class_rates.specs.SimmRules.Params.{Params}
use Rattle.class_rates.specs.SimmRules.Net.{Sensitivity}
use Rattle.class_rates.specs.SimmRules.declared.classes.CreditClass.TheVariants.{Qualifying, NonQualifying}
use Rattle.class_rates.specs.SimmRules.declared.classes.PricedClass.TheVariants.{Equities, Commodities}
use Rattle.class_rates.specs.SimmRules.Rates.{rate_curvature}
use Rattle.class_rates.specs.SimmRules.Credit.{credit_curvature}
use Rattle.class_rates.specs.SimmRules.Priced.{price_curvature}
use Rattle.class_rates.specs.SimmRules.ForeignExchange.{fx_curvature}
use Rattle.class_rates.specs.FactorBook.declared.slot.Slot.{Slot}
use Rattle.negated_book.specs.Negated.{negated_value}

-- of the sensitivities of the product class
abbrev pub class_curvature_of : Params → List Sensitivity → RiskClass → ℤ
class_curvature_of p ss class.IR = rate_curvature p ss
class_curvature_of p ss class.CreditQ = credit_curvature p.lambda_base p.credit_q Qualifying ss
class_curvature_of p ss class.CreditNonQ = credit_curvature p.lambda_base p.credit_nq NonQualifying ss
class_curvature_of p ss class.Equity = price_curvature p.lambda_base p.equity Equities ss
class_curvature_of p ss class.Commodity = price_curvature p.lambda_base p.commodity Commodities ss
class_curvature_of p ss class.FX = fx_curvature p ss

-- ---- the values of a book with all sensitivities negated

abbrev pub negated_bucket : Slot × BucketMargin → Slot × BucketMargin
negated_bucket part = (part.0, negated_value part.1)

abbrev pub negated_buckets : List (Slot × BucketMargin) → List (Slot × BucketMargin)
negated_buckets parts = map negated_bucket parts

-- sums no greater than those of any bucket in range
pub record CanBeNegated (value : BucketMargin) : Type 0 where
  pub held : unsigned_abs value.s < 84 * 10 ^ 14
  pub sum : unsigned_abs value.sum < 84 * 10 ^ 14
