-- Values of a class in range can be joined.
use Rattle.std.proofs.Common.{◌^◌, ℕ, ◌+◌, ◌*◌, ◌≤◌, List, [], ◌∷◌, ℤ, pos, ◌+ℤ◌, ◌≤ℤ◌, unsigned_abs, arith}
use Rattle.std.specs.Prelude.{sum_by}
use Rattle.std.specs.List.{AllByRecursion}
use Rattle.std.proofs.lemmas.Int.{ints}
use Rattle.std.proofs.lemmas.List.Sums.{sum_by-cons}
use Rattle.class_rates.specs.SimmRules.declared.values.BucketMargin.{BucketMargin}
use Rattle.class_rates.specs.SimmRules.Sums.{total_by}
use Rattle.class_rates.proofs.MeasuredBucket.Lists.{each_weaker}
use Rattle.class_margin.specs.curvature.Combine.{gross_size, margins_size, AreSized}
use Rattle.class_margin.specs.curvature.Values.{IsSizedBy}

module _ {A : Type 0} (size : A × BucketMargin → ℤ) (count : A × BucketMargin → ℕ) where
  abbrev Whole : Type 0
  Whole = A × BucketMargin

  abbrev IsOwn : Whole → Type 0
  IsOwn part = IsSizedBy (size part) (count part) part.1

  gross_close : (parts : List Whole) → AllByRecursion IsOwn parts → pos (gross_size parts * 20000) ≤ℤ (total_by size parts +ℤ pos (sum_by count parts * 20000))
  gross_close [] h = omega (arith, ints)
  gross_close (part ∷ parts) h =
      let own = h.0 in
      omega (arith, ints, own.gross, own.margin, own.not_negative, gross_close parts h.1, sum_by-cons (λ (p : Whole). unsigned_abs (p.1).gross) part parts, sum_by-cons count part parts)

  margins_less : (parts : List Whole) → AllByRecursion IsOwn parts → margins_size parts ≤ gross_size parts
  margins_less [] h = omega arith
  margins_less (part ∷ parts) h =
      let own = h.0 in
      omega (arith, ints, own.margin, own.not_negative, margins_less parts h.1, sum_by-cons (λ (p : Whole). unsigned_abs (p.1).gross) part parts, sum_by-cons (λ (p : Whole). unsigned_abs (p.1).k) part parts)

  summed_one : (part : Whole) → IsOwn part → pos (unsigned_abs (part.1).sum) ≤ℤ (part.1).gross
  summed_one part own = omega (arith, ints, own.sum, own.margin, own.not_negative)

  pub joined : (parts : List (A × BucketMargin)) → AllByRecursion (λ part. IsSizedBy (size part) (count part) part.1) parts → total_by size parts ≤ℤ pos (10 ^ 17) → sum_by count parts ≤ 20000 → 25 * (gross_size parts + 10 * margins_size parts) ≤ 14 * 10 ^ 14 → AreSized parts
  joined parts sized small few bounded = record {
    not_negative = each_weaker IsOwn (λ part. pos 0 ≤ℤ (part.1).k) (λ part own. own.not_negative) parts sized;
    held = each_weaker IsOwn (λ part. unsigned_abs (part.1).s ≤ unsigned_abs (part.1).k) (λ part own. own.held) parts sized;
    summed = each_weaker IsOwn (λ part. pos (unsigned_abs (part.1).sum) ≤ℤ (part.1).gross) summed_one parts sized;
    margins = omega (arith, ints, margins_less parts sized, gross_close parts sized, small, few);
    gross = omega (arith, ints, gross_close parts sized, small, few);
    small = bounded;
  }
