-- What is known of a bucket's value.
-- (ISDA SIMM methodology, vega margin.)
use Rattle.std.specs.Prelude.{◌*◌, ◌^◌, ◌≤◌, List, length, ℤ, pos, ◌+ℤ◌, ◌*ℤ◌, ◌≤ℤ◌, ◌<ℤ◌, unsigned_abs}
use Rattle.class_rates.specs.SimmRules.declared.values.BucketMargin.{BucketMargin}
use Rattle.class_rates.specs.SimmRules.Risks.{Amount}
use Rattle.class_rates.specs.SimmRules.Concentration.{one}
use Rattle.class_rates.specs.SimmRules.Gross.{size_by}

-- The sizes of a bucket's value, beside the sum of the sizes of its sensitivities times their volatilities, in ten-thousandths of a
-- cent. A vega risk is at most 1.2 times that sum and a cent, a vega risk weight is at most 2, concentration factors are below 347,
-- and a weighted value is a cent off at most. So the gross sizes of all buckets of a class in range add up to less than
-- 8.4 * 10^15 cents.
pub record IsSized {A : Type 0} (weight : A → ℤ) (amounts : List (Amount A)) (value : BucketMargin) : Type 0 where
  pub not_negative : pos 0 ≤ℤ value.k
  pub held : unsigned_abs value.s ≤ unsigned_abs value.k
  pub margin : value.k ≤ℤ value.gross
  pub sum : unsigned_abs value.sum ≤ unsigned_abs value.gross
  pub gross : (value.gross *ℤ pos (10 ^ 10)) ≤ℤ (size_by weight amounts *ℤ pos 832799998 +ℤ pos (length amounts) *ℤ pos (695 * 10 ^ 10))
  pub below : value.gross <ℤ pos (84 * 10 ^ 14)
  pub cr_low : one ≤ℤ value.cr.0
  pub cr_high : value.cr.0 <ℤ pos 347000000
