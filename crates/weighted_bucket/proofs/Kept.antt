-- What stands where a factor didn't change, and how many steps changed ones take.
use Rattle.std.proofs.Common.{◌≡◌, ℕ, ◌+◌, ◌*◌, ◌/◌, ◌<◌, ◌≤◌, List, length, slice_index_or, All, Bool, true, false, ◌&&◌, ◌==◌, if◌then◌else◌, ℤ, ◌≤ℤ◌, refl, ap, ◌∙◌, arith, mul-le-mul_left, mul-le-mul_right}
use Rattle.std.specs.Ordering.{int_eq}
use Rattle.std.proofs.lemmas.Bool.Decides.{Decides-int_eq}
use Rattle.concentration.specs.SimmRules.Concentration.{one}
use Rattle.weighted_bucket.specs.declared.scaling.Scaling.{Scaling}
use Rattle.weighted_bucket.specs.declared.scaling.Scaling.TheVariants as scaling
use Rattle.weighted_bucket.specs.declared.weighed.Weighed.{Weighed}
use Rattle.weighted_bucket.specs.Correlated.{no_factor, cr_at, scaled, correlation, ShareConcentration}
use Rattle.weighted_bucket.specs.Changed.{differ, changed_at}
use Rattle.weighted_bucket.proofs.Correlations.{even}

same_cr : (a b : Weighed) → differ a b ≡ false → (a.cr).0 ≡ (b.cr).0
same_cr a b h = (Decides-int_eq a.cr.0 b.cr.0).0 (both (int_eq a.w b.w) (int_eq a.cr.0 b.cr.0) h)
  where
    both : (s t : Bool) → (if s && t then false else true) ≡ false → t ≡ true
    both true true e = refl
    both true false e = cc
    both false t e = cc

pub cr_kept : (before after : List Weighed) (i : ℕ) → changed_at before after i ≡ false → cr_at before i ≡ cr_at after i
cr_kept before after i h = same_cr (slice_index_or before i no_factor) (slice_index_or after i no_factor) h

-- the correlation of two factors that didn't change
pub correlation-kept : (way : Scaling) (before after : List Weighed) (rho : ℕ → ℕ → ℤ) (i j : ℕ) → changed_at before after i ≡ false → changed_at before after j ≡ false → correlation way before rho i j ≡ correlation way after rho i j
correlation-kept way before after rho i j p q =
    ap (λ a. if i == j then one else scaled way (rho i j) a (cr_at before j)) (cr_kept before after i p) ∙ ap (λ b. if i == j then one else scaled way (rho i j) (cr_at after i) b) (cr_kept before after j q)

-- of factors that share one concentration
pub correlation-shared : (factors : List Weighed) (rho : ℕ → ℕ → ℤ) (i j : ℕ) → All (λ factor. one ≤ℤ factor.cr.0) factors → ShareConcentration factors → i < length factors → j < length factors → correlation scaling.Plain factors rho i j ≡ correlation scaling.Concentrated factors rho i j
correlation-shared factors rho i j from_one share p q =
    ap (λ r. if i == j then one else r) (even (rho i j) (cr_at factors i) (cr_at factors j) (from_one i no_factor p) (share i j p q))

-- from scratch takes no more than by difference, where more than a quarter changed
pub scratch_steps : (n d a b : ℕ) → n / 4 < d → 2 * b ≡ 2 * a + n * (n + 1) → b ≤ a + 2 * (d * n)
scratch_steps n d a b h e = let most : n + 1 ≤ 4 * d = omega arith in omega (arith, e, mul-le-mul_left n most)

pub difference_steps : (n d a b : ℕ) → d ≤ n / 4 → b ≤ a + 2 * (d * n) → b ≤ a + n * n
difference_steps n d a b h e = let most : 2 * d ≤ n = omega arith in omega (arith, e, mul-le-mul_right n most)
