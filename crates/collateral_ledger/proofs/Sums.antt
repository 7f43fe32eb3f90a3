-- Sums and differences of numbers that stay far from the ends of an i128.
use Rattle.std.proofs.Common.{◌≡◌, ◌≤◌, ◌^◌, ℤ, ◌+ℤ◌, ◌-ℤ◌, unsigned_abs, FitsSigned, arith, refl}
use Rattle.std.proofs.lemmas.Int.{ints, fits_signed_from_abs}
use Rattle.std.specs.Int.{w128, cast_signed, cast_unsigned}
use Rattle.csa_terms.proofs.MhUnits.Integers.{same128}

abbrev pub IsSmall : ℤ → Type 0
IsSmall z = unsigned_abs z ≤ 2 ^ 100

-- a number as it is read where it is kept
abbrev pub kept128 : ℤ → ℤ
kept128 z = cast_signed w128 (cast_unsigned w128 z)

pub kept_is : (z : ℤ) → IsSmall z → kept128 z ≡ z
kept_is z small = same128 z (fits_signed_from_abs w128 z (omega (arith, small)))

module _ (a b : ℤ) (small_a : IsSmall a) (small_b : IsSmall b) where
  pub sum_fits : FitsSigned w128 (kept128 a +ℤ kept128 b)
  sum_fits = rw (kept_is a small_a, kept_is b small_b) (fits_signed_from_abs w128 (a +ℤ b) (omega (arith, ints, small_a, small_b)))

  pub sum_is : kept128 (kept128 a +ℤ kept128 b) ≡ a +ℤ b
  sum_is = rw (same128 (kept128 a +ℤ kept128 b) sum_fits, kept_is a small_a, kept_is b small_b) refl

  pub difference_fits : FitsSigned w128 (kept128 a -ℤ kept128 b)
  difference_fits = rw (kept_is a small_a, kept_is b small_b) (fits_signed_from_abs w128 (a -ℤ b) (omega (arith, ints, small_a, small_b)))

  pub difference_is : kept128 (kept128 a -ℤ kept128 b) ≡ a -ℤ b
  difference_is = rw (same128 (kept128 a -ℤ kept128 b) difference_fits, kept_is a small_a, kept_is b small_b) refl
