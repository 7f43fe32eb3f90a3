-- The sizes of the rates of a book in range, and of what they come to.
use Rattle.std.specs.Prelude.{ℕ, ◌^◌, ◌*◌, ◌≤◌, List, length, pos, ◌≤ℤ◌, ◌<ℤ◌, unsigned_abs}
use Rattle.class_rates.specs.SimmRules.declared.values.BucketMargin.{BucketMargin}
use Rattle.class_rates.specs.SimmRules.Params.{Params}
use Rattle.class_rates.specs.SimmRules.Net.{Sensitivity}
use Rattle.class_rates.specs.SimmRules.Risks.{Amount, select}
use Rattle.class_rates.specs.SimmRules.Concentration.{one}
use Rattle.class_rates.specs.SimmRules.Rates.{RateIn, as_rate, rate_weight, rates_in}
use Rattle.class_rates.specs.SimmRules.Gross.{size_by}
use Rattle.class_rates.specs.MeasuredBucket.Values.{IsInRange}

-- the rates of a bucket of a book in range
abbrev pub IsBucket : Params → List (Amount RateIn) → Type 0
IsBucket p rates = IsInRange (rate_weight p) rates

-- the rates of a product class of a book in range: how many there are in all and in each currency, and their weighted size
pub record IsClass (p : Params) (ss : List Sensitivity) : Type 0 where
  pub few : length (select as_rate ss) ≤ 20000
  pub few_each : (currency : List ℕ) → length (rates_in currency ss) ≤ 2000
  pub small : size_by (rate_weight p) (select as_rate ss) ≤ℤ pos (10 ^ 17)

-- the value of a bucket, as the margin over buckets takes it
pub record IsPart (b : BucketMargin) : Type 0 where
  pub not_negative : pos 0 ≤ℤ b.k
  pub held : unsigned_abs b.s ≤ unsigned_abs b.k
  pub margin : b.k ≤ℤ b.gross
  pub sum : unsigned_abs b.sum ≤ unsigned_abs b.gross
  pub gross : b.gross <ℤ pos (84 * 10 ^ 14)
  pub cr_low : one ≤ℤ b.cr.0
  pub cr_high : b.cr.0 <ℤ pos 347000000
