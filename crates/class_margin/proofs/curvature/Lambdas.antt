-- Lambda, a part of the margin, and the scale of interest rates: their sizes.
use Rattle.std.proofs.Common.{◌≡◌, ◌^◌, ℕ, ◌*◌, ◌≤◌, ap, ◌∙◌, ℤ, pos, negsuc, neg_ℤ, ◌+ℤ◌, ◌-ℤ◌, ◌*ℤ◌, ◌≤ℤ◌, ◌<ℤ◌, unsigned_abs, FitsSigned, arith, mul-le-mul_left, mul-le-mul_right}
use Rattle.std.specs.Int.{w128, cast_signed, cast_unsigned}
use Rattle.std.proofs.lemmas.Int.{ints, clamps, fits_signed_from_abs}
use Rattle.class_rates.specs.MhUnits.Rounding.{up}
use Rattle.class_rates.proofs.MhUnits.Integers.{mul-le_ℤ, same128}
use Rattle.class_rates.proofs.MhUnits.Roundings.{up_is}
use Rattle.class_rates.specs.SimmRules.Concentration.{one}
use Rattle.class_rates.specs.SimmRules.Curvature.{shortfall, lambda}
use Rattle.class_rates.specs.SimmParams.Ranges.{lambda_bases, ir_hvrs, IsWithin}

-- ---- products of numbers that are not negative

times_low : (a b : ℤ) → pos 0 ≤ℤ a → pos 0 ≤ℤ b → pos 0 ≤ℤ (a *ℤ b)
times_low (pos a) (pos b) h g = omega (arith, ints)
times_low (pos a) (negsuc b) h g = absurd g.le
times_low (negsuc a) b h g = absurd h.le

times_high : (a b : ℤ) (most : ℕ) → pos 0 ≤ℤ a → a ≤ℤ pos most → pos 0 ≤ℤ b → (a *ℤ b) ≤ℤ pos (most * unsigned_abs b)
times_high (pos a) (pos b) most h m g = let below : a ≤ most = omega (arith, ints) in omega (arith, ints, mul-le-mul_right b below)
times_high (pos a) (negsuc b) most h m g = absurd g.le
times_high (negsuc a) b most h m g = absurd h.le

-- a quotient upwards of a number that is not negative
up_low : (n b x : ℤ) → pos 0 ≤ℤ n → pos 0 <ℤ b → n ≤ℤ (x *ℤ b) → pos 0 ≤ℤ x
up_low n (pos b) (pos x) low some enough = omega (arith, ints)
up_low n (pos b) (negsuc x) low some enough =
    let less : (negsuc x *ℤ pos b) ≤ℤ (neg_ℤ (pos 1) *ℤ pos b) = mul-le_ℤ (negsuc x) (neg_ℤ (pos 1)) b (omega (arith, ints)) in
    absurd (omega (arith, ints))
up_low n (negsuc b) x low some enough = absurd (omega (arith, ints))

-- ---- lambda

abbrev whole : ℤ → ℤ → ℤ → ℤ
whole base sum gross = base *ℤ (gross +ℤ shortfall sum) -ℤ one *ℤ shortfall sum

pub record Shortfall (sum gross : ℤ) : Type 0 where
  pub low : neg_ℤ gross ≤ℤ shortfall sum
  pub high : shortfall sum ≤ℤ pos 0

shortfall_is : (sum gross : ℤ) → pos 0 <ℤ gross → pos (unsigned_abs sum) ≤ℤ gross → Shortfall sum gross
shortfall_is sum gross some summed = record { low = omega (arith, ints, clamps); high = omega (arith, ints, clamps) }

pub record Whole (base sum gross : ℤ) : Type 0 where
  pub rest_fits : FitsSigned w128 (gross +ℤ shortfall sum)
  pub first_fits : FitsSigned w128 (base *ℤ (gross +ℤ shortfall sum))
  pub second_fits : FitsSigned w128 (one *ℤ shortfall sum)
  pub whole_fits : FitsSigned w128 (base *ℤ (gross +ℤ shortfall sum) -ℤ one *ℤ shortfall sum)
  pub low : pos 0 ≤ℤ lambda base sum gross
  pub high : lambda base sum gross ≤ℤ pos (10 ^ 7)

pub whole_is : (base sum gross : ℤ) → IsWithin lambda_bases base → pos 0 <ℤ gross → gross <ℤ pos (84 * 10 ^ 14) → pos (unsigned_abs sum) ≤ℤ gross → Whole base sum gross
whole_is base sum gross range some below summed =
    let short = shortfall_is sum gross some summed in
    let rest_low : pos 0 ≤ℤ (gross +ℤ shortfall sum) = omega (arith, ints, short.low) in
    let rest_high : (gross +ℤ shortfall sum) ≤ℤ gross = omega (arith, ints, short.high) in
    let low : pos 0 ≤ℤ (base *ℤ (gross +ℤ shortfall sum)) = times_low base (gross +ℤ shortfall sum) range.low rest_low in
    let high : (base *ℤ (gross +ℤ shortfall sum)) ≤ℤ pos (10 ^ 7 * unsigned_abs (gross +ℤ shortfall sum)) = times_high base (gross +ℤ shortfall sum) (10 ^ 7) range.low range.high rest_low in
    let all_low : pos 0 ≤ℤ whole base sum gross = omega (arith, ints, short.high, low) in
    let all_high : whole base sum gross ≤ℤ (pos (10 ^ 7) *ℤ gross) = omega (arith, ints, short.high, high, rest_low) in
    let rounded = up_is (whole base sum gross) gross some in
    record {
      rest_fits = fits_signed_from_abs w128 (gross +ℤ shortfall sum) (omega (arith, ints, rest_low, rest_high, below));
      first_fits = fits_signed_from_abs w128 (base *ℤ (gross +ℤ shortfall sum)) (omega (arith, ints, low, high, rest_low, rest_high, below));
      second_fits = fits_signed_from_abs w128 (one *ℤ shortfall sum) (omega (arith, ints, short.low, short.high, below));
      whole_fits = fits_signed_from_abs w128 (whole base sum gross) (omega (arith, ints, all_low, all_high, below));
      low = up_low (whole base sum gross) gross (lambda base sum gross) all_low some rounded.enough;
      high = rounded.least (pos (10 ^ 7)) all_high;
    }

-- ---- as they are computed

abbrev pub passed : ℤ → ℤ
passed z = cast_signed w128 (cast_unsigned w128 z)

rest_passed : (a b : ℤ) → FitsSigned w128 a → FitsSigned w128 b → FitsSigned w128 (a +ℤ b) → passed (passed a +ℤ passed b) ≡ a +ℤ b
rest_passed a b h g both = ap (λ z. passed (z +ℤ passed b)) (same128 a h) ∙ ap (λ z. passed (a +ℤ z)) (same128 b g) ∙ same128 (a +ℤ b) both

-- f and s are the base and the shortfall
module _ (base sum gross f s : ℤ) (its : Whole base sum gross) (is_base : f ≡ base) (is_short : s ≡ shortfall sum) (base_fits : FitsSigned w128 base) (gross_fits : FitsSigned w128 gross) (short_fits : FitsSigned w128 (shortfall sum)) where
  abbrev rest : ℤ
  rest = gross +ℤ shortfall sum

  pub first_passed : passed f *ℤ passed (passed gross +ℤ passed s) ≡ base *ℤ (gross +ℤ shortfall sum)
  first_passed =
      ap (λ z. passed z *ℤ passed (passed gross +ℤ passed s)) is_base ∙ ap (λ z. z *ℤ passed (passed gross +ℤ passed s)) (same128 base base_fits)
      ∙ ap (λ z. base *ℤ passed (passed gross +ℤ passed z)) is_short ∙ ap (λ z. base *ℤ z) (rest_passed gross (shortfall sum) gross_fits short_fits its.rest_fits)

  second_passed : pos 1000000 *ℤ passed s ≡ one *ℤ shortfall sum
  second_passed = ap (λ z. one *ℤ passed z) is_short ∙ ap (λ z. one *ℤ z) (same128 (shortfall sum) short_fits)

  pub whole_passed : passed (passed f *ℤ passed (passed gross +ℤ passed s)) -ℤ passed (pos 1000000 *ℤ passed s) ≡ base *ℤ (gross +ℤ shortfall sum) -ℤ one *ℤ shortfall sum
  whole_passed =
      ap (λ z. passed z -ℤ passed (pos 1000000 *ℤ passed s)) first_passed ∙ ap (λ z. z -ℤ passed (pos 1000000 *ℤ passed s)) (same128 (base *ℤ rest) its.first_fits)
      ∙ ap (λ z. base *ℤ rest -ℤ passed z) second_passed ∙ ap (λ z. base *ℤ rest -ℤ z) (same128 (one *ℤ shortfall sum) its.second_fits)

  pub lambda_passed : up (passed (passed (passed f *ℤ passed (passed gross +ℤ passed s)) -ℤ passed (pos 1000000 *ℤ passed s))) (passed gross) ≡ lambda base sum gross
  lambda_passed =
      ap (λ z. up (passed z) (passed gross)) whole_passed ∙ ap (λ z. up z (passed gross)) (same128 (whole base sum gross) its.whole_fits) ∙ ap (up (whole base sum gross)) (same128 gross gross_fits)

pub base_fits : (base : ℤ) → IsWithin lambda_bases base → FitsSigned w128 base
base_fits base range = fits_signed_from_abs w128 base (omega (arith, ints, range.low, range.high))

pub short_fits : (sum gross : ℤ) → pos 0 <ℤ gross → gross <ℤ pos (84 * 10 ^ 14) → pos (unsigned_abs sum) ≤ℤ gross → FitsSigned w128 (shortfall sum)
short_fits sum gross some below summed = let short = shortfall_is sum gross some summed in fits_signed_from_abs w128 (shortfall sum) (omega (arith, ints, short.low, short.high, below))

-- ---- lambda times the root

pub record Scaled (lambda root : ℤ) : Type 0 where
  pub fits : FitsSigned w128 (lambda *ℤ root)
  pub low : pos 0 ≤ℤ up (lambda *ℤ root) one
  pub high : up (lambda *ℤ root) one ≤ℤ pos (10 * unsigned_abs root)

pub scaled_is : (lambda root : ℤ) → pos 0 ≤ℤ lambda → lambda ≤ℤ pos (10 ^ 7) → pos 0 ≤ℤ root → root <ℤ pos (84 * 10 ^ 14) → Scaled lambda root
scaled_is lambda root lambda_low lambda_high root_low root_high =
    let low : pos 0 ≤ℤ (lambda *ℤ root) = times_low lambda root lambda_low root_low in
    let high : (lambda *ℤ root) ≤ℤ pos (10 ^ 7 * unsigned_abs root) = times_high lambda root (10 ^ 7) lambda_low lambda_high root_low in
    let some : pos 0 <ℤ one = omega (arith, ints) in
    let rounded = up_is (lambda *ℤ root) one some in
    record {
      fits = fits_signed_from_abs w128 (lambda *ℤ root) (omega (arith, ints, low, high, root_low, root_high));
      low = up_low (lambda *ℤ root) one (up (lambda *ℤ root) one) low some rounded.enough;
      high = rounded.least (pos (10 * unsigned_abs root)) (omega (arith, ints, high));
    }

pub root_passed : (lambda root : ℤ) → Scaled lambda root → FitsSigned w128 lambda → FitsSigned w128 root → up (passed (passed lambda *ℤ passed root)) one ≡ up (lambda *ℤ root) one
root_passed lambda root its h g =
    ap (λ z. up (passed (z *ℤ passed root)) one) (same128 lambda h) ∙ ap (λ z. up (passed (lambda *ℤ z)) one) (same128 root g) ∙ ap (λ z. up z one) (same128 (lambda *ℤ root) its.fits)

-- ---- the scale of interest rates

pub record OverRatio (margin hvr : ℤ) : Type 0 where
  pub scaled_fits : FitsSigned w128 (margin *ℤ pos (10 ^ 8))
  pub square_fits : FitsSigned w128 (hvr *ℤ hvr)
  pub some : pos 0 <ℤ (hvr *ℤ hvr)
  pub low : pos 0 ≤ℤ up (margin *ℤ pos (10 ^ 8)) (hvr *ℤ hvr)
  pub size : up (margin *ℤ pos (10 ^ 8)) (hvr *ℤ hvr) ≤ℤ pos (25 * unsigned_abs margin)

pub over_ratio_is : (margin hvr : ℤ) → IsWithin ir_hvrs hvr → pos 0 ≤ℤ margin → margin ≤ℤ pos (10 ^ 18) → OverRatio margin hvr
over_ratio_is (pos m) (pos h) range low high =
    let at_least : 2000 ≤ h = omega (arith, ints, range.low) in
    let at_most : h ≤ 20000 = omega (arith, ints, range.high) in
    let square_low : 2000 * 2000 ≤ h * h = omega (arith, mul-le-mul_right 2000 at_least, mul-le-mul_left h at_least) in
    let square_high : h * h ≤ 20000 * 20000 = omega (arith, mul-le-mul_right h at_most, mul-le-mul_left 20000 at_most) in
    let some : pos 0 <ℤ (pos h *ℤ pos h) = omega (arith, ints, square_low) in
    let rounded = up_is (pos m *ℤ pos (10 ^ 8)) (pos h *ℤ pos h) some in
    let enough : (pos m *ℤ pos (10 ^ 8)) ≤ℤ (pos (25 * m) *ℤ (pos h *ℤ pos h)) = omega (arith, ints, mul-le-mul_left (25 * m) square_low) in
    record {
      scaled_fits = fits_signed_from_abs w128 (pos m *ℤ pos (10 ^ 8)) (omega (arith, ints, high));
      square_fits = fits_signed_from_abs w128 (pos h *ℤ pos h) (omega (arith, ints, square_high));
      some = some;
      low = up_low (pos m *ℤ pos (10 ^ 8)) (pos h *ℤ pos h) (up (pos m *ℤ pos (10 ^ 8)) (pos h *ℤ pos h)) (omega (arith, ints)) some rounded.enough;
      size = rounded.least (pos (25 * m)) enough;
    }
over_ratio_is (pos m) (negsuc h) range low high = absurd (omega (arith, ints, range.low))
over_ratio_is (negsuc m) hvr range low high = absurd low.le

-- r is the ratio
pub ratio_passed : (margin hvr r : ℤ) → OverRatio margin hvr → r ≡ hvr → FitsSigned w128 margin → FitsSigned w128 hvr → up (passed (passed margin *ℤ pos (10 ^ 8))) (passed (passed r *ℤ passed r)) ≡ up (margin *ℤ pos (10 ^ 8)) (hvr *ℤ hvr)
ratio_passed margin hvr r its is h g =
    ap (λ z. up (passed (z *ℤ pos (10 ^ 8))) (passed (passed r *ℤ passed r))) (same128 margin h) ∙ ap (λ z. up z (passed (passed r *ℤ passed r))) (same128 (margin *ℤ pos (10 ^ 8)) its.scaled_fits)
    ∙ ap (λ z. up (margin *ℤ pos (10 ^ 8)) (passed (passed z *ℤ passed z))) is ∙ ap (λ z. up (margin *ℤ pos (10 ^ 8)) (passed (z *ℤ z))) (same128 hvr g)
    ∙ ap (up (margin *ℤ pos (10 ^ 8))) (same128 (hvr *ℤ hvr) its.square_fits)

pub hvr_fits : (hvr : ℤ) → IsWithin ir_hvrs hvr → FitsSigned w128 hvr
hvr_fits hvr range = fits_signed_from_abs w128 hvr (omega (arith, ints, range.low, range.high))
