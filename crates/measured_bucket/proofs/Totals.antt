-- What volatilities in range come to over tenors can be measured, and what is near these sums is near the volatilities.
use Rattle.std.proofs.Common.{◌≡◌, ◌^◌, ℕ, ◌*◌, ◌+◌, ◌<◌, ◌≤◌, List, length, ap, ℤ, pos, ◌*ℤ◌, ◌≤ℤ◌, unsigned_abs, arith, mul-le-mul_right}
use Rattle.std.specs.Prelude.{sum_by}
use Rattle.std.proofs.Math.Nat.{le_of_mul-le-mul_right}
use Rattle.std.proofs.lemmas.Int.{ints}
use Rattle.std.proofs.lemmas.List.{length-map}
use Rattle.simm_params.specs.SimmRules.Risks.{Amount}
use Rattle.simm_params.specs.SimmRules.Gross.{size_by}
use Rattle.measured_bucket.specs.declared.tenor_scale.TenorScale.{TenorScale}
use Rattle.measured_bucket.specs.declared.tenor_scale.TenorScale.TheVariants as scale
use Rattle.measured_bucket.specs.Measured.{IsNear}
use Rattle.measured_bucket.specs.Runs.{AreRunsInRange, AreTotals}
use Rattle.measured_bucket.specs.Scale.{most}
use Rattle.measured_bucket.proofs.Lists.{each_always, each_map}
use Rattle.measured_bucket.proofs.OverTenors.{Things, keys, keys_ascend, total, totals}
use Rattle.measured_bucket.proofs.Sizes.{size_one, size_all, size_is, size_small, sum_by-map}
use Rattle.measured_bucket.proofs.TotalSizes.{keys_fewer, one_size, totals_weighed}

some_most : (s : TenorScale) → 0 < most s
some_most scale.Even = omega arith
some_most scale.Curved = omega arith

module _ {K V : Type 0} (things : Things K V) (s : TenorScale) (sigma : K → ℤ) (low : (k : K) → pos 0 ≤ℤ sigma k) (amounts : List (Amount V)) where
  abbrev sums : List (Amount K)
  sums = totals things s amounts

  abbrev sum_of : K → Amount K
  sum_of k = record { of = k; amount = total things s amounts k }

  abbrev sigma_of : V → ℤ
  sigma_of v = sigma (things.key v)

  fewer : length sums ≤ length amounts
  fewer = omega (arith, length-map (keys things amounts) sum_of, keys_fewer things amounts)

  sizes : size_all sigma sums ≤ size_all sigma_of amounts * most s
  sizes = omega (arith, sum_by-map (size_one sigma) sum_of (keys things amounts), totals_weighed things amounts s sigma)

  pub are_totals : AreRunsInRange (λ v. sigma (things.key v)) amounts → AreTotals things.cmp s sigma (totals things s amounts)
  are_totals range = record {
    ascends = keys_ascend things (total things s amounts) amounts;
    few = omega (arith, fewer, (range.weighed).few);
    weighed = omega (arith, ints, size_is sigma low sums, sizes, mul-le-mul_right (most s) (size_small sigma_of (λ v. low (things.key v)) amounts range.weighed));
    each = each_map (λ (a : Amount K). unsigned_abs a.amount ≤ 2 * 10 ^ 20 * most s) sum_of (keys things amounts)
        (each_always (λ k. unsigned_abs (total things s amounts k) ≤ 2 * 10 ^ 20 * most s) (λ k. omega (arith, one_size things amounts s k, mul-le-mul_right (most s) range.sizes)) (keys things amounts));
  }

  pub totals_near : (unit times cents gross : ℕ) → IsNear (unit * most s) times cents sigma (totals things s amounts) gross → IsNear unit times cents (λ v. sigma (things.key v)) amounts gross
  totals_near unit times cents gross near =
      let own : size_by sigma sums *ℤ pos times ≡ pos (size_all sigma sums * times) = ap (λ z. z *ℤ pos times) (size_is sigma low sums) in
      let all : size_by sigma_of amounts *ℤ pos times ≡ pos (size_all sigma_of amounts * times) = ap (λ z. z *ℤ pos times) (size_is sigma_of (λ v. low (things.key v)) amounts) in
      let summed : gross * (unit * most s) ≤ size_all sigma sums * times + length sums * (cents * (unit * most s)) = omega (arith, ints, near, own) in
      let counted : (gross * unit) * most s ≤ (size_all sigma_of amounts * times + length amounts * (cents * unit)) * most s =
      omega (arith, summed, mul-le-mul_right times sizes, mul-le-mul_right (cents * (unit * most s)) fewer) in
      let within : gross * unit ≤ size_all sigma_of amounts * times + length amounts * (cents * unit) = le_of_mul-le-mul_right counted (some_most s) in
      omega (arith, ints, within, all)
