use Rattle.std.proofs.Common.{◌≡◌, ◌∙◌, sym, subst, pos, ◌-ℤ◌, ◌*ℤ◌, FitsSigned, arith}
use Rattle.std.specs.Int.{w64, w128}
use Rattle.std.proofs.lemmas.Int.{ints, to_z-of_z, fits_signed_from_abs}
use Rattle.simm_params.specs.MhUnits.Rounding.{up}
use Rattle.simm_params.proofs.MhUnits.Integers.{same64, same128}
use Rattle.class_combine.specs.Multipliers.{IsMultiplied}
use Rattle.class_combine.proofs.Multiplying.{over_margin, multiplied_range}
use Rattle.class_combine.proofs.multipliers.multiplier_share.Goals as goal

pub returns-clause-value : goal.returns-clause-value
returns-clause-value c =
    let f = c.args.factor.0 in
    let m = c.args.margin.0 in
    let range = multiplied_range f m c.requires.factor c.requires.margin in
    let from_is : c.from-over.result ≡ f = c.from-over.ensures ∙ same64 f (fits_signed_from_abs w64 f (omega (arith, ints, c.requires.factor.low, c.requires.factor.high))) in
    let fits_from : FitsSigned w128 f = fits_signed_from_abs w128 f (omega (arith, ints, c.requires.factor.low, c.requires.factor.high)) in
    let fits_over : FitsSigned w128 (f -ℤ pos 10000) = fits_signed_from_abs w128 (f -ℤ pos 10000) (omega (arith, ints, c.requires.factor.low, c.requires.factor.high)) in
    let fits_margin : FitsSigned w128 m = fits_signed_from_abs w128 m (omega (arith, ints, c.requires.margin.low, c.requires.margin.size)) in
    let fits_product : FitsSigned w128 ((f -ℤ pos 10000) *ℤ m) = fits_signed_from_abs w128 ((f -ℤ pos 10000) *ℤ m) (omega (arith, over_margin f m c.requires.factor c.requires.margin)) in
    let quotient : c.div_up.result ≡ up ((f -ℤ pos 10000) *ℤ m) (pos 10000) = simp (from_is, to_z-of_z) at c.div_up.ensures.value in
    let fits : FitsSigned w128 (up ((f -ℤ pos 10000) *ℤ m) (pos 10000)) = fits_signed_from_abs w128 (up ((f -ℤ pos 10000) *ℤ m) (pos 10000)) (omega (arith, ints, range.low, range.size)) in
    same128 c.div_up.result (subst (FitsSigned w128) (sym quotient) fits) ∙ quotient

pub returns-clause-range : goal.returns-clause-range
returns-clause-range c =
    let f = c.args.factor.0 in
    let m = c.args.margin.0 in
    let range = multiplied_range f m c.requires.factor c.requires.margin in
    let from_is : c.from-over.result ≡ f = c.from-over.ensures ∙ same64 f (fits_signed_from_abs w64 f (omega (arith, ints, c.requires.factor.low, c.requires.factor.high))) in
    let fits_from : FitsSigned w128 f = fits_signed_from_abs w128 f (omega (arith, ints, c.requires.factor.low, c.requires.factor.high)) in
    let fits_over : FitsSigned w128 (f -ℤ pos 10000) = fits_signed_from_abs w128 (f -ℤ pos 10000) (omega (arith, ints, c.requires.factor.low, c.requires.factor.high)) in
    let fits_margin : FitsSigned w128 m = fits_signed_from_abs w128 m (omega (arith, ints, c.requires.margin.low, c.requires.margin.size)) in
    let fits_product : FitsSigned w128 ((f -ℤ pos 10000) *ℤ m) = fits_signed_from_abs w128 ((f -ℤ pos 10000) *ℤ m) (omega (arith, over_margin f m c.requires.factor c.requires.margin)) in
    let quotient : c.div_up.result ≡ up ((f -ℤ pos 10000) *ℤ m) (pos 10000) = simp (from_is, to_z-of_z) at c.div_up.ensures.value in
    let fits : FitsSigned w128 (up ((f -ℤ pos 10000) *ℤ m) (pos 10000)) = fits_signed_from_abs w128 (up ((f -ℤ pos 10000) *ℤ m) (pos 10000)) (omega (arith, ints, range.low, range.size)) in
    subst IsMultiplied (sym (same128 c.div_up.result (subst (FitsSigned w128) (sym quotient) fits) ∙ quotient)) range
