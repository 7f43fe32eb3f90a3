-- A part of the margin as it is computed.
use Rattle.std.proofs.Common.{◌≡◌, zero, suc, ◌==◌, if◌then◌else◌, false, sym, ap, ◌∙◌, ℤ, pos, negsuc, ◌+ℤ◌, ◌*ℤ◌, ◌≤ℤ◌, ◌<ℤ◌, unsigned_abs, FitsSigned, arith}
use Rattle.std.specs.Int.{w128, int_max, cast_unsigned}
use Rattle.std.proofs.lemmas.Bool.{ne_eqb}
use Rattle.std.proofs.lemmas.Int.{ints}
use Rattle.class_rates.specs.MhUnits.Rounding.{up}
use Rattle.class_rates.proofs.MhUnits.Integers.{same128}
use Rattle.class_rates.specs.SimmRules.Concentration.{one}
use Rattle.class_rates.specs.SimmRules.Curvature.{lambda}
use Rattle.class_margin.specs.curvature.Part.{part_by}
use Rattle.class_margin.proofs.curvature.Lambdas.{passed}

-- a gross size that is not 0
pub some_gross : (g gross : ℤ) → (cast_unsigned w128 g ≡ 0 → ⊥) → g ≡ gross → pos 0 ≤ℤ gross → pos 0 <ℤ gross
some_gross g (pos zero) f e h = absurd (f (ap (cast_unsigned w128) e))
some_gross g (pos (suc n)) f e h = omega (arith, ints)
some_gross g (negsuc n) f e h = absurd h.le

-- s, g, l and r are the sum of the risks, their gross size, lambda and lambda times the root
module _ (base sum gross root s g l r : ℤ) (is_sum : s ≡ sum) (is_gross : g ≡ gross) (sum_fits : FitsSigned w128 sum) (gross_fits : FitsSigned w128 g) (root_fits : FitsSigned w128 root) (lambda_fits : FitsSigned w128 l) (scaled_fits : FitsSigned w128 r) (is_lambda : l ≡ lambda base (passed s) (passed g)) (is_scaled : r ≡ up (passed l *ℤ passed root) one) where
  pub sum_passed : passed s ≡ sum
  sum_passed = ap passed is_sum ∙ same128 sum sum_fits

  gross_passed : passed g ≡ gross
  gross_passed = same128 g gross_fits ∙ is_gross

  scaled_is : r ≡ up (lambda base sum gross *ℤ root) one
  scaled_is =
      is_scaled ∙ ap (λ z. up (z *ℤ passed root) one) (same128 l lambda_fits ∙ is_lambda ∙ ap (λ z. lambda base z (passed g)) sum_passed ∙ ap (lambda base sum) gross_passed)
      ∙ ap (λ z. up (lambda base sum gross *ℤ z) one) (same128 root root_fits)

  pub both_passed : passed s +ℤ passed r ≡ sum +ℤ r
  both_passed = ap (λ z. z +ℤ passed r) sum_passed ∙ ap (λ z. sum +ℤ z) (same128 r scaled_fits)

  not_zero : pos 0 <ℤ gross → (unsigned_abs gross == 0) ≡ false
  not_zero some = ne_eqb (unsigned_abs gross) 0 (λ e. omega (arith, ints))

  pub part_passed : FitsSigned w128 (sum +ℤ r) → pos 0 <ℤ gross → int_max (passed (passed s +ℤ passed r)) (pos 0) ≡ part_by base sum gross root
  part_passed fits some =
      ap (λ z. int_max (passed z) (pos 0)) both_passed ∙ ap (λ z. int_max z (pos 0)) (same128 (sum +ℤ r) fits) ∙ ap (λ z. int_max (sum +ℤ z) (pos 0)) scaled_is
      ∙ sym (ap (λ t. if t then pos 0 else int_max (sum +ℤ up (lambda base sum gross *ℤ root) one) (pos 0)) (not_zero some))
