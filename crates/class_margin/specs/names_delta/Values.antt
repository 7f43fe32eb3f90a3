-- What is known of the value of a bucket.
use Rattle.std.specs.Prelude.{◌≡◌, ◌*◌, ◌^◌, ◌<◌, ◌≤◌, List, length, ℤ, pos, ◌+ℤ◌, ◌*ℤ◌, ◌≤ℤ◌, unsigned_abs}
use Rattle.class_rates.specs.SimmRules.declared.values.BucketMargin.{BucketMargin}
use Rattle.class_rates.specs.SimmRules.Risks.{Amount}
use Rattle.class_rates.specs.SimmRules.Concentration.{one}
use Rattle.class_rates.specs.SimmRules.Gross.{size_by}
pub use Rattle.class_rates.specs.MeasuredBucket.Values.{nets_in, nets, nets_at, IsInRange, IsSmall, AreSmall, weighed_as}

-- The sizes of a bucket's value. Concentration factors are below 347, and each weighted value is less than a cent off, so that
-- the gross sizes of all buckets of a class in range add up to less than 8.4 * 10^15 cents.
pub record IsSized {A : Type 0} (weight : A → ℤ) (amounts : List (Amount A)) (value : BucketMargin) : Type 0 where
  pub not_negative : pos 0 ≤ℤ value.k
  pub held : unsigned_abs value.s ≤ unsigned_abs value.k
  pub margin : unsigned_abs value.k ≤ unsigned_abs value.gross
  pub sum : unsigned_abs value.sum ≤ unsigned_abs value.gross
  pub gross : (value.gross *ℤ pos (10 ^ 10)) ≤ℤ (size_by weight amounts *ℤ pos 346999999 +ℤ pos (length amounts) *ℤ pos (10 ^ 10))
  pub below : unsigned_abs value.gross < 84 * 10 ^ 14
  pub unconcentrated : value.cr.0 ≡ one
