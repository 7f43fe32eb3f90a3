-- What is known of a bucket's value.
-- (ISDA SIMM methodology, curvature margin.)
use Rattle.std.specs.Prelude.{ℕ, ◌≡◌, ◌*◌, ◌^◌, ◌≤◌, List, length, ℤ, pos, ◌+ℤ◌, ◌*ℤ◌, ◌≤ℤ◌, ◌<ℤ◌, unsigned_abs}
use Rattle.class_rates.specs.SimmRules.declared.values.BucketMargin.{BucketMargin}
use Rattle.class_rates.specs.SimmRules.Risks.{Amount}
use Rattle.class_rates.specs.SimmRules.Concentration.{one}
use Rattle.class_rates.specs.SimmRules.Gross.{size_by}

-- The sizes of a bucket's value, beside the sum of the sizes of its sensitivities times their volatilities, in ten-thousandths of a
-- cent, and their number. A tenor counts at most a half, and a curvature risk is less than a cent off: so the gross sizes of all
-- buckets of a class in range add up to no more than 5 * 10^12 cents and one for each sensitivity.
pub record IsSizedBy (size : ℤ) (count : ℕ) (value : BucketMargin) : Type 0 where
  pub not_negative : pos 0 ≤ℤ value.k
  pub held : unsigned_abs value.s ≤ unsigned_abs value.k
  pub margin : value.k ≤ℤ value.gross
  pub sum : unsigned_abs value.sum ≤ unsigned_abs value.gross
  pub gross : (value.gross *ℤ pos 20000) ≤ℤ (size +ℤ pos count *ℤ pos 20000)
  pub below : value.gross <ℤ pos (84 * 10 ^ 14)
  pub unconcentrated : value.cr.0 ≡ one

abbrev pub IsSized : {A : Type 0} → (A → ℤ) → List (Amount A) → BucketMargin → Type 0
IsSized weight amounts value = IsSizedBy (size_by weight amounts) (length amounts) value
