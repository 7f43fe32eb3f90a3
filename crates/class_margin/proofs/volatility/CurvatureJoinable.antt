-- The parts of a class in range: they can be joined, and their margin is small.
use Rattle.std.proofs.Common.{◌^◌, ℕ, ◌+◌, ◌*◌, ◌≤◌, List, [], ◌∷◌, ℤ, pos, ◌+ℤ◌, ◌*ℤ◌, ◌≤ℤ◌, unsigned_abs, arith}
use Rattle.std.specs.Prelude.{sum_by}
use Rattle.std.specs.List.{AllByRecursion}
use Rattle.std.proofs.lemmas.Int.{ints}
use Rattle.std.proofs.lemmas.List.Sums.{sum_by-cons}
use Rattle.class_rates.specs.SimmRules.declared.values.BucketMargin.{BucketMargin}
use Rattle.class_rates.specs.SimmRules.Sums.{total_by}
use Rattle.class_margin.specs.curvature.Combine.{margins_size, gross_size, AreSized}
use Rattle.class_margin.specs.curvature.Values.{IsSizedBy}
use Rattle.class_margin.proofs.curvature.Joined.{joined}

-- the volatilities of the parts: their size and how many there are
pub record AreJoinable {A : Type 0} (parts : List (A × BucketMargin)) : Type 0 where
  pub size : A × BucketMargin → ℤ
  pub count : A × BucketMargin → ℕ
  pub each : AllByRecursion (λ part. IsSizedBy (size part) (count part) part.1) parts
  pub small : total_by size parts ≤ℤ pos (10 ^ 17)
  pub few : sum_by count parts ≤ 20000

-- what the margin over the parts is at most, before the scale of interest rates
bound_close : {A : Type 0} (size : A × BucketMargin → ℤ) (count : A × BucketMargin → ℕ) (parts : List (A × BucketMargin)) → AllByRecursion (λ part. IsSizedBy (size part) (count part) part.1) parts
    → pos ((gross_size parts + 10 * margins_size parts) * 20000) ≤ℤ (pos 11 *ℤ (total_by size parts +ℤ pos (sum_by count parts * 20000)))
bound_close {A} size count [] h = omega (arith, ints)
bound_close {A} size count (part ∷ parts) h =
    let own : IsSizedBy (size part) (count part) part.1 = h.0 in
    omega (
      arith,
      ints,
      own.gross,
      own.margin,
      own.not_negative,
      bound_close size count parts h.1,
      sum_by-cons (λ (p : A × BucketMargin). unsigned_abs (p.1).gross) part parts,
      sum_by-cons (λ (p : A × BucketMargin). unsigned_abs (p.1).k) part parts,
      sum_by-cons count part parts,
    )

bounded : {A : Type 0} (parts : List (A × BucketMargin)) → AreJoinable parts → 25 * (gross_size parts + 10 * margins_size parts) ≤ 14 * 10 ^ 14
bounded parts its = omega (arith, ints, bound_close its.size its.count parts its.each, its.small, its.few)

pub sized : {A : Type 0} (parts : List (A × BucketMargin)) → AreJoinable parts → AreSized parts
sized parts its = joined its.size its.count parts its.each its.small its.few (bounded parts its)
