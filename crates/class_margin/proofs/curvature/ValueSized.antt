-- The sizes of a curvature value, by what its measure says of it.
use Rattle.std.proofs.Common.{◌≡◌, List, ℤ, unsigned_abs, ap, ◌∙◌, arith}
use Rattle.std.specs.Prelude.{Result, Ok, Err, IfOk}
use Rattle.std.proofs.lemmas.Int.{ints}
use Rattle.class_rates.specs.SimmRules.declared.values.BucketMargin.{BucketMargin}
use Rattle.class_rates.specs.SimmRules.Risks.{Amount}
use Rattle.class_rates.specs.SimmRules.Concentration.{one}
use Rattle.class_rates.specs.MeasuredBucket.Measured.{IsNear, IsSound}
use Rattle.class_margin.specs.curvature.Values.{IsSized}

-- no concentration scales it
pub value_sized : {E A : Type 0} (r : Result BucketMargin E) (weight : A → ℤ) (amounts : List (Amount A)) (value : BucketMargin) → IfOk r (λ m. m ≡ value) → value.cr.0 ≡ one → IfOk r IsSound
    → IfOk r (λ m. IsNear 20000 1 1 weight amounts (unsigned_abs m.gross)) → IfOk r (IsSized weight amounts)
value_sized (Ok m) weight amounts value e cr sound near = record {
  not_negative = sound.not_negative;
  held = sound.held;
  margin = omega (arith, ints, sound.not_negative, sound.margin, sound.positive);
  sum = sound.sum;
  gross = omega (arith, ints, sound.positive, near);
  below = omega (arith, ints, sound.below, sound.positive);
  unconcentrated = ap (λ (v : BucketMargin). v.cr.0) e ∙ cr;
}
value_sized (Err f) weight amounts value e cr sound near = tt
