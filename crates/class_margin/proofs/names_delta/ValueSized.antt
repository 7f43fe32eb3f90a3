-- The sizes of a value, by what its measure says of it.
use Rattle.std.proofs.Common.{◌≡◌, ◌^◌, List, ℤ, ap, ◌∙◌, unsigned_abs, arith}
use Rattle.std.specs.Prelude.{Result, Ok, Err, IfOk}
use Rattle.std.proofs.lemmas.Int.{ints}
use Rattle.class_rates.specs.SimmRules.declared.values.BucketMargin.{BucketMargin}
use Rattle.class_rates.specs.SimmRules.Risks.{Amount}
use Rattle.class_rates.specs.SimmRules.Concentration.{one}
use Rattle.class_rates.specs.MeasuredBucket.Measured.{IsNear, IsSound}
use Rattle.class_margin.specs.names_delta.Values.{IsSized}

pub value_sized : {E A : Type 0} (r : Result BucketMargin E) (weight : A → ℤ) (amounts : List (Amount A)) (value : BucketMargin) → IfOk r (λ m. m ≡ value) → value.cr.0 ≡ one → IfOk r IsSound
    → IfOk r (λ m. IsNear (10 ^ 10) 346999999 1 weight amounts (unsigned_abs m.gross)) → IfOk r (IsSized weight amounts)
value_sized (Ok m) weight amounts value e cr sound near = record {
  not_negative = sound.not_negative;
  held = sound.held;
  margin = sound.margin;
  sum = sound.sum;
  gross = omega (arith, ints, sound.positive, near);
  below = sound.below;
  unconcentrated = ap (λ (v : BucketMargin). v.cr.0) e ∙ cr;
}
value_sized (Err f) weight amounts value e cr sound near = tt
