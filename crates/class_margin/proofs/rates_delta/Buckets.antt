-- The value of a currency's bucket.
use Rattle.std.proofs.Common.{arith}
use Rattle.std.proofs.lemmas.Int.{ints}
use Rattle.class_rates.specs.SimmRules.declared.values.BucketMargin.{BucketMargin}
use Rattle.class_rates.specs.MeasuredBucket.Measured.{IsSound}
use Rattle.class_margin.specs.rates_delta.Range.{IsPart}

-- what is measured is in the range of the margin over buckets
pub part_sound : (b : BucketMargin) → IsSound b → IsPart b
part_sound b sound = record {
  not_negative = sound.not_negative;
  held = sound.held;
  margin = omega (arith, ints, sound.not_negative, sound.margin, sound.positive);
  sum = sound.sum;
  gross = omega (arith, ints, sound.below, sound.positive);
  cr_low = sound.cr_low;
  cr_high = sound.cr_high;
}
