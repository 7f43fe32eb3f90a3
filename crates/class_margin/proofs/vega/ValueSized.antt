-- The sizes of a vega value, by what its measure says of it.
use Rattle.std.proofs.Common.{◌^◌, List, ℤ, unsigned_abs, arith}
use Rattle.std.specs.Prelude.{Result, Ok, Err, IfOk}
use Rattle.std.proofs.lemmas.Int.{ints}
use Rattle.std.proofs.lemmas.Result.{IfOk-weaker}
use Rattle.class_rates.specs.SimmRules.declared.values.BucketMargin.{BucketMargin}
use Rattle.class_rates.specs.SimmRules.Risks.{Amount}
use Rattle.class_rates.specs.MeasuredBucket.Measured.{IsNear, IsSound}
use Rattle.class_margin.specs.volatilities.Ranges.{alone}
use Rattle.class_rates.proofs.MeasuredBucket.Sizes.{size_is}
use Rattle.class_margin.specs.vega.Values.{IsSized}

pub value_sized : {E A : Type 0} (r : Result BucketMargin E) (weight : A → ℤ) (amounts : List (Amount A)) → IfOk r IsSound → IfOk r (λ m. IsNear (10 ^ 10) 832799998 695 weight amounts (unsigned_abs m.gross)) → IfOk r (IsSized weight amounts)
value_sized (Ok m) weight amounts sound near = record {
  not_negative = sound.not_negative;
  held = sound.held;
  margin = omega (arith, ints, sound.not_negative, sound.margin, sound.positive);
  sum = sound.sum;
  gross = omega (arith, ints, sound.positive, near);
  below = omega (arith, ints, sound.below, sound.positive);
  cr_low = sound.cr_low;
  cr_high = sound.cr_high;
}
value_sized (Err f) weight amounts sound near = tt

-- in rates and in credit, amounts are already volatility times vega
pub risk_sized : {E A : Type 0} (r : Result BucketMargin E) (amounts : List (Amount A)) → IfOk r IsSound → IfOk r (λ m. IsNear (10 ^ 10) 693999998 1 alone amounts (unsigned_abs m.gross)) → IfOk r (IsSized alone amounts)
risk_sized {E} {A} r amounts sound near =
    value_sized r alone amounts sound
    (IfOk-weaker r (λ m. IsNear (10 ^ 10) 693999998 1 alone amounts (unsigned_abs m.gross)) (λ m. IsNear (10 ^ 10) 832799998 695 alone amounts (unsigned_abs m.gross))
    (λ m its. omega (arith, ints, its, size_is (alone {A = A}) (λ x. omega (arith, ints)) amounts)) near)
