-- What makes the correlations of a bucket's factors correlations.
use Rattle.std.proofs.Common.{◌≡◌, ℕ, ◌<◌, ◌≤◌, List, length, map, All, ◌==◌, if◌then◌else◌, ℤ, pos, negsuc, ◌*ℤ◌, ◌≤ℤ◌, ◌<ℤ◌, unsigned_abs, refl, ap, ◌∙◌, subst, arith}
use Rattle.std.specs.Int.{int_min, int_max}
use Rattle.std.proofs.lemmas.Int.{ints, clamps}
use Rattle.std.proofs.lemmas.List.{length-map}
use Rattle.concentration.specs.MhUnits.Rounding.{down, trunc, up}
use Rattle.concentration.proofs.MhUnits.Roundings.{correlation_size, up_is}
use Rattle.concentration.proofs.Factors.{ratio_bounds, ratio_of_equals}
use Rattle.concentration.specs.SimmRules.Concentration.{one, ratio}
use Rattle.concentration.specs.SimmRules.Bucket.{combined}
use Rattle.pair_sum.specs.PairTotal.{at_place}
use Rattle.pair_sum.proofs.Sums.{sum_below-ext}
use Rattle.pair_sum.proofs.Itself.{with_itself-symmetric, with_itself-at_most_one}
use Rattle.weighted_bucket.specs.declared.scaling.Scaling.{Scaling}
use Rattle.weighted_bucket.specs.declared.scaling.Scaling.TheVariants as scaling
use Rattle.weighted_bucket.specs.declared.weighed.Weighed.{Weighed}
use Rattle.weighted_bucket.specs.Bucket.{pairs_of}
use Rattle.weighted_bucket.specs.Correlated.{no_factor, cr_at, scaled, scaled_at, correlation, ShareConcentration}

min_symmetric : (a b : ℤ) → int_min a b ≡ int_min b a
min_symmetric a b = omega (arith, ints, clamps)

max_symmetric : (a b : ℤ) → int_max a b ≡ int_max b a
max_symmetric a b = omega (arith, ints, clamps)

ratio-symmetric : (a b : ℤ) → ratio a b ≡ ratio b a
ratio-symmetric a b = ap (λ z. down (z *ℤ one) (int_max a b)) (min_symmetric a b) ∙ ap (λ z. down (int_min b a *ℤ one) z) (max_symmetric a b)

ratio-small : (a b : ℤ) → one ≤ℤ a → one ≤ℤ b → unsigned_abs (ratio a b) ≤ 1000000
ratio-small a b p q =
    let bounds = ratio_bounds (int_min a b) (int_max a b) (omega (arith, ints, clamps)) (omega (arith, ints, clamps)) (omega (arith, ints, clamps)) in
    omega (arith, ints, bounds.0, bounds.1)

scaled-symmetric : (way : Scaling) (r s a b : ℤ) → r ≡ s → scaled way r a b ≡ scaled way s b a
scaled-symmetric scaling.Concentrated r s a b e = ap (λ z. combined z (ratio a b)) e ∙ ap (combined s) (ratio-symmetric a b)
scaled-symmetric scaling.Plain r s a b e = e
scaled-symmetric scaling.Squared r s a b e = ap (λ z. combined z z) e

scaled-small : (way : Scaling) (r a b : ℤ) → one ≤ℤ a → one ≤ℤ b → unsigned_abs r ≤ 1000000 → unsigned_abs (scaled way r a b) ≤ 1000000
scaled-small scaling.Concentrated r a b p q h = correlation_size r (ratio a b) h (ratio-small a b p q)
scaled-small scaling.Plain r a b p q h = h
scaled-small scaling.Squared r a b p q h = correlation_size r r h h

-- ---- of places

pub correlation-symmetric : (way : Scaling) (factors : List Weighed) (rho : ℕ → ℕ → ℤ) (n : ℕ) → n ≡ length factors → ((i j : ℕ) → i < n → j < n → rho i j ≡ rho j i) → (i j : ℕ) → i < length factors → j < length factors → correlation way factors rho i j ≡ correlation way factors rho j i
correlation-symmetric way factors rho n same symmetric i j p q =
    with_itself-symmetric (scaled_at way factors rho) i j
    (scaled-symmetric way (rho i j) (rho j i) (cr_at factors i) (cr_at factors j) (symmetric i j (omega arith) (omega arith)))

pub correlation-small : (way : Scaling) (factors : List Weighed) (rho : ℕ → ℕ → ℤ) (n : ℕ) → n ≡ length factors → All (λ factor. one ≤ℤ factor.cr.0) factors → ((i j : ℕ) → i < n → j < n → unsigned_abs (rho i j) ≤ 1000000) → (i j : ℕ) → i < length factors → j < length factors → unsigned_abs (correlation way factors rho i j) ≤ 1000000
correlation-small way factors rho n same from_one small i j p q =
    with_itself-at_most_one (scaled_at way factors rho) i j
    (scaled-small way (rho i j) (cr_at factors i) (cr_at factors j) (from_one i no_factor p) (from_one j no_factor q) (small i j (omega arith) (omega arith)))

-- ---- factors that share one concentration

trunc-below : (z : ℤ) → z <ℤ pos 0 → up z one ≡ trunc z one
trunc-below (pos n) h = omega (arith, ints)
trunc-below (negsuc n) h = refl

combined-one : (r : ℤ) → r ≡ combined r one
combined-one (pos n) = omega (arith, ints)
combined-one (negsuc n) =
    let u = up_is (negsuc n *ℤ one) one (omega (arith, ints)) in
    let low = u.least (negsuc n) (omega (arith, ints)) in
    let whole : negsuc n ≡ up (negsuc n *ℤ one) one = omega (arith, ints, u.enough, low) in
    whole ∙ trunc-below (negsuc n *ℤ one) (omega (arith, ints))

-- a table's correlation, times the ratio of two equal concentrations
pub even : (r a b : ℤ) → one ≤ℤ a → a ≡ b → r ≡ combined r (ratio a b)
even r a b from_one e = subst (λ z. r ≡ combined r z) (ratio_of_equals a b from_one e) (combined-one r)

pub pairs_of-shared : (factors : List Weighed) (rho : ℕ → ℕ → ℤ) → All (λ factor. one ≤ℤ factor.cr.0) factors → ShareConcentration factors → pairs_of scaling.Plain factors rho ≡ pairs_of scaling.Concentrated factors rho
pairs_of-shared factors rho from_one share =
    let ws = map (λ (factor : Weighed). factor.w) factors in
    let sized : length ws ≡ length factors = length-map factors (λ (factor : Weighed). factor.w) in
    sum_below-ext _ _ (length ws) (λ i p. sum_below-ext _ _ (length ws) (λ j q.
    ap (λ r. (if i == j then one else r) *ℤ at_place ws i *ℤ at_place ws j)
    (even (rho i j) (cr_at factors i) (cr_at factors j) (from_one i no_factor (omega (arith, sized))) (share i j (omega (arith, sized)) (omega (arith, sized))))))
