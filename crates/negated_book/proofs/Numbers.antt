-- Negated numbers under the roundings, the concentration factor and the clamp.
use Rattle.std.proofs.Common.{◌≡◌, ℕ, zero, suc, ◌^◌, ◌/◌, ℤ, pos, negsuc, neg_ℤ, ◌*ℤ◌, ◌≤ℤ◌, refl, sym, ap, ◌∙◌, arith}
use Rattle.std.proofs.Math.IntN.{neg_ℤ-neg_ℤ}
use Rattle.std.proofs.Math.Nat.{zero-div}
use Rattle.std.specs.Int.{int_max}
use Rattle.std.proofs.lemmas.Int.{ints, clamps}
use Rattle.factor_book.specs.MhUnits.Rounding.{up, down, away, root, clamp}
use Rattle.factor_book.specs.SimmRules.Concentration.{one, cr}
use Rattle.factor_book.specs.SimmRules.Bucket.{weighted_value}
use Rattle.factor_book.proofs.SimmKinds.MhUnits.Integers.{neg-mul, mul-neg, unsigned_abs-neg}

pub neg-mul-neg : (c a b : ℤ) → c *ℤ neg_ℤ a *ℤ neg_ℤ b ≡ c *ℤ a *ℤ b
neg-mul-neg c a b =
    mul-neg (c *ℤ neg_ℤ a) b ∙ ap (λ z. neg_ℤ (z *ℤ b)) (mul-neg c a) ∙ ap neg_ℤ (neg-mul (c *ℤ a) b) ∙ neg_ℤ-neg_ℤ (c *ℤ a *ℤ b)

pub away-neg : (a : ℤ) (k : ℕ) → away (neg_ℤ a) (pos k) ≡ neg_ℤ (away a (pos k))
away-neg (pos zero) k = none (zero / k) (zero-div k)
  where
    none : (n : ℕ) → n ≡ zero → neg_ℤ (pos n) ≡ neg_ℤ (neg_ℤ (pos n))
    none n e = ap (λ m. neg_ℤ (pos m)) e ∙ sym (ap (λ m. neg_ℤ (neg_ℤ (pos m))) e)
away-neg (pos (suc n)) k = sym (neg_ℤ-neg_ℤ (down (negsuc n) (pos k)))
away-neg (negsuc n) k = refl

-- a factor times an amount, away from zero
pub away-mul-neg : (f a : ℤ) (k : ℕ) → away (f *ℤ neg_ℤ a) (pos k) ≡ neg_ℤ (away (f *ℤ a) (pos k))
away-mul-neg f a k = ap (λ z. away z (pos k)) (mul-neg f a) ∙ away-neg (f *ℤ a) k

pub cr-neg : (x T : ℤ) → cr (neg_ℤ x) T ≡ cr x T
cr-neg x T = ap (λ n. int_max one (root (up (pos n *ℤ pos (10 ^ 12)) T))) (unsigned_abs-neg x)

pub weighted_value-neg : (weight x c : ℤ) → weighted_value weight (neg_ℤ x) c ≡ neg_ℤ (weighted_value weight x c)
weighted_value-neg weight x c =
    ap (λ z. away (z *ℤ c) (pos (10 ^ 10))) (mul-neg weight x) ∙ ap (λ z. away z (pos (10 ^ 10))) (neg-mul (weight *ℤ x) c) ∙ away-neg (weight *ℤ x *ℤ c) (10 ^ 10)

pub clamp-neg : (x k : ℤ) → pos 0 ≤ℤ k → clamp (neg_ℤ x) k ≡ neg_ℤ (clamp x k)
clamp-neg x k h = omega (arith, ints, clamps)
