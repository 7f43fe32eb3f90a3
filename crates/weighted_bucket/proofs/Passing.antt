-- Products of numbers that are passed to calls and back, and that 128 bits hold.
use Rattle.std.proofs.Common.{◌≡◌, ◌^◌, ◌*◌, ◌<◌, ◌≤◌, ℤ, ◌*ℤ◌, unsigned_abs, FitsSigned, ap, ◌∙◌, arith, mul-le-mul_left, mul-le-mul_right}
use Rattle.std.specs.Int.{w128, cast_signed, cast_unsigned}
use Rattle.std.proofs.lemmas.Int.{fits_signed_from_abs, unsigned_abs-mul}
use Rattle.concentration.proofs.MhUnits.Integers.{same128}

-- two factors, each passed on
pub factors_passed : (f g x y : ℤ) → FitsSigned w128 f → FitsSigned w128 g → f ≡ x → g ≡ y → cast_signed w128 (cast_unsigned w128 f) *ℤ cast_signed w128 (cast_unsigned w128 g) ≡ x *ℤ y
factors_passed f g x y p q d e = ap (λ z. z *ℤ cast_signed w128 (cast_unsigned w128 g)) (same128 f p ∙ d) ∙ ap (λ z. x *ℤ z) (same128 g q ∙ e)

pub product_passed : (f g x y : ℤ) → FitsSigned w128 f → FitsSigned w128 g → f ≡ x → g ≡ y → FitsSigned w128 (x *ℤ y) → cast_signed w128 (cast_unsigned w128 (cast_signed w128 (cast_unsigned w128 f) *ℤ cast_signed w128 (cast_unsigned w128 g))) ≡ x *ℤ y
product_passed f g x y p q d e r = ap (λ z. cast_signed w128 (cast_unsigned w128 z)) (factors_passed f g x y p q d e) ∙ same128 (x *ℤ y) r

pub weight_net_fits : (w n : ℤ) → unsigned_abs n * unsigned_abs w ≤ 10 ^ 28 → FitsSigned w128 (w *ℤ n)
weight_net_fits w n h = fits_signed_from_abs w128 (w *ℤ n) (omega (arith, unsigned_abs-mul w n))

pub weighted_fits : (w n c : ℤ) → unsigned_abs n * unsigned_abs w ≤ 10 ^ 28 → unsigned_abs c < 347000000 → FitsSigned w128 (w *ℤ n *ℤ c)
weighted_fits w n c h below =
    let small : unsigned_abs (w *ℤ n) ≤ 10 ^ 28 = omega (arith, unsigned_abs-mul w n) in
    let low : unsigned_abs c ≤ 347000000 = omega arith in
    fits_signed_from_abs w128 (w *ℤ n *ℤ c) (omega (arith, unsigned_abs-mul (w *ℤ n) c, mul-le-mul_right (unsigned_abs c) small, mul-le-mul_left (10 ^ 28) low))
