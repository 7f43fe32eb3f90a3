use Rattle.std.proofs.Common.{◌≡◌, ◌∙◌, ap, sym, subst, arith, ◌*◌, ◌^◌, ◌≤ℤ◌, pos, FitsSigned, unsigned_abs}
use Rattle.std.proofs.lemmas.Int.{ints, fits_signed_from_abs}
use Rattle.std.specs.Int.{w128}
use Rattle.simm_params.specs.MhUnits.Rounding.{up, root}
use Rattle.simm_params.proofs.MhUnits.Integers.{same128}
use Rattle.class_combine.proofs.Products.{root_low, root_abs, root_within}
use Rattle.class_combine.proofs.product.product_margin.Goals as goal

pub returns-then-square-le0-clause-value : goal.returns-then-square-le0-clause-value
returns-then-square-le0-clause-value c =
    let fits : FitsSigned w128 c.pairs.result = fits_signed_from_abs w128 c.pairs.result (omega (arith, c.pairs.ensures.size)) in
    let quotient : c.div_up-square.result ≡ up c.pairs.result (pos 10000) = c.div_up-square.ensures.value ∙ ap (λ z. up z (pos 10000)) (same128 c.pairs.result fits) in
    root_low c.div_up-square.result (omega (arith, ints)) ∙ ap root quotient ∙ ap (λ z. root (up z (pos 10000))) c.pairs.ensures.value

pub returns-else-square-le0-clause-size : goal.returns-else-square-le0-clause-size
returns-else-square-le0-clause-size c =
    let fits : FitsSigned w128 c.pairs.result = fits_signed_from_abs w128 c.pairs.result (omega (arith, c.pairs.ensures.size)) in
    let quotient : c.div_up-square.result ≡ up c.pairs.result (pos 10000) = c.div_up-square.ensures.value ∙ ap (λ z. up z (pos 10000)) (same128 c.pairs.result fits) in
    let fits_square : FitsSigned w128 c.div_up-square.result = fits_signed_from_abs w128 c.div_up-square.result (omega (arith, c.div_up-square.ensures.size, c.pairs.ensures.size, ap unsigned_abs (same128 c.pairs.result fits))) in
    let root_is : pos c.least_root.result ≡ root (up c.pairs.result (pos 10000)) =
    c.least_root.ensures.value ∙ ap (λ z. root (pos (unsigned_abs z))) (same128 c.div_up-square.result fits_square) ∙ root_abs c.div_up-square.result (omega (arith, ints)) ∙ ap root quotient in
    let bound : pos c.least_root.result ≤ℤ pos (12 * 10 ^ 16) = subst (λ z. z ≤ℤ pos (12 * 10 ^ 16)) (sym root_is) (root_within c.pairs.result c.pairs.ensures.size) in
    omega (arith, ints, bound)
