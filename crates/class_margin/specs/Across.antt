-- The delta or the vega margin of a class over the values of its buckets.
-- (ISDA SIMM methodology, delta and vega margin: aggregation across buckets.)
use Rattle.std.specs.Prelude.{◌*◌, ◌^◌, List, ℤ, pos, ◌≤ℤ◌}
use Rattle.class_rates.specs.SimmKinds.declared.kinds.RiskClass.{RiskClass}
use Rattle.class_rates.specs.SimmKinds.declared.kinds.RiskClass.TheVariants as class
use Rattle.class_rates.specs.SimmRules.declared.classes.CreditClass.TheVariants.{Qualifying, NonQualifying}
use Rattle.class_rates.specs.SimmRules.declared.classes.PricedClass.TheVariants.{Equities, Commodities}
use Rattle.class_rates.specs.SimmRules.declared.values.BucketMargin.{BucketMargin}
use Rattle.class_rates.specs.SimmRules.Params.{Params}
use Rattle.class_rates.specs.FactorBook.declared.slot.Slot.{Slot}
use Rattle.class_margin.specs.declared.listed.ClassBuckets.{ClassBuckets}
use Rattle.class_margin.specs.declared.listed.ClassBuckets.TheVariants as buckets
use Rattle.class_margin.specs.declared.listed.ListedClass.{ListedClass}
use Rattle.class_margin.specs.declared.listed.ListedClass.TheVariants.{Credit, Priced}
use Rattle.class_margin.specs.Parts.{currency_parts, listed_parts, single_k}
use Rattle.class_margin.specs.rates_delta.Parts.{margin_over as currencies_margin}
use Rattle.class_margin.specs.rates_delta.Parts.{AreParts as AreCurrencyParts}
use Rattle.class_margin.specs.names_delta.Combine.{listed_in, named_margin, AreListed, AreSized}

-- the buckets of a risk class: currencies, those that the file lists, or the one of foreign exchange
abbrev pub buckets_of : RiskClass → ClassBuckets
buckets_of class.IR = buckets.Currencies
buckets_of class.CreditQ = buckets.Listed (Credit Qualifying)
buckets_of class.CreditNonQ = buckets.Listed (Credit NonQualifying)
buckets_of class.Equity = buckets.Listed (Priced Equities)
buckets_of class.Commodity = buckets.Listed (Priced Commodities)
buckets_of class.FX = buckets.Single

abbrev pub margin_across : Params → ClassBuckets → List (Slot × BucketMargin) → ℤ
margin_across p buckets.Currencies parts = currencies_margin p (currency_parts parts)
margin_across p (buckets.Listed class) parts = named_margin p class (listed_parts parts)
margin_across p buckets.Single parts = single_k parts

-- ---- which parts have one

-- a margin from 0 to 8.4 * 10^15 cents
pub record IsMargin (z : ℤ) : Type 0 where
  pub low : pos 0 ≤ℤ z
  pub high : z ≤ℤ pos (84 * 10 ^ 14)

pub record AreListedParts (p : Params) (class : ListedClass) (parts : List (Slot × BucketMargin)) : Type 0 where
  pub listed : AreListed (listed_in p class) (listed_parts parts)
  pub sized : AreSized (listed_parts parts)

abbrev pub AreParts : Params → ClassBuckets → List (Slot × BucketMargin) → Type 0
AreParts p buckets.Currencies parts = AreCurrencyParts (currency_parts parts)
AreParts p (buckets.Listed class) parts = AreListedParts p class parts
AreParts p buckets.Single parts = IsMargin (single_k parts)
