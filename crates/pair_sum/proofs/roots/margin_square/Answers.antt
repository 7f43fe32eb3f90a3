use Rattle.std.proofs.Common.{arith, ap, get_or, ◌*ℤ◌, rules, FitsSigned}
use Rattle.std.proofs.lemmas.Int.{to_z-of_z, fits_signed_from_abs}
use Rattle.std.specs.Int.{w128}
use Rattle.simm_rules.specs.Concentration.{one}
use Rattle.pair_sum.proofs.Outer.{no_part, margin_at, margin_in_range, margin_fits}
use Rattle.pair_sum.proofs.roots.margin_square.Goals as goal

pub overflow_mul-result-2 : goal.overflow_mul-result-2
overflow_mul-result-2 c =
    let k = (get_or c.args.parts.now c.args.row no_part).k in
    let fits : FitsSigned w128 k = search rules in
    let sizes = margin_fits k (margin_in_range c.args.parts.now c.args.row c.requires.row_in c.requires.in_range) in
    let square : FitsSigned w128 (k *ℤ k) = fits_signed_from_abs w128 (k *ℤ k) (omega (arith, sizes.0)) in
    simp to_z-of_z (fits_signed_from_abs w128 (one *ℤ (k *ℤ k)) (omega (arith, sizes.1)))

pub returns : goal.returns
returns c =
    let k = (get_or c.args.parts.now c.args.row no_part).k in
    let fits : FitsSigned w128 k = search rules in
    let sizes = margin_fits k (margin_in_range c.args.parts.now c.args.row c.requires.row_in c.requires.in_range) in
    let square : FitsSigned w128 (k *ℤ k) = fits_signed_from_abs w128 (k *ℤ k) (omega (arith, sizes.0)) in
    let scaled : FitsSigned w128 (one *ℤ (k *ℤ k)) = fits_signed_from_abs w128 (one *ℤ (k *ℤ k)) (omega (arith, sizes.1)) in
    simp to_z-of_z (ap (λ z. one *ℤ (z *ℤ z)) (margin_at c.args.parts.now c.args.row c.requires.row_in))
