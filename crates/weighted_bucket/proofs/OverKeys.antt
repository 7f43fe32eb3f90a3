-- The sum over places as the written rule's sum over keys, for factors that were made of keys; and a bucket's value by places as
-- the rule's value of its factors.
use Rattle.std.proofs.Common.{◌≡◌, ◌≢◌, ℕ, ◌<◌, List, [], ◌∷◌, map, length, get_or, Bool, true, false, ◌==◌, ℤ, pos, ◌+ℤ◌, ◌*ℤ◌, unsigned_abs, if◌then◌else◌, refl, sym, ap, ◌∙◌}
use Rattle.std.proofs.lemmas.Bool.{eq-eqb, false≢true}
use Rattle.std.proofs.lemmas.List.{get_or-map}
use Rattle.std.proofs.lemmas.Simd.{map-map}
use Rattle.concentration.specs.MhUnits.Rounding.{clamp}
use Rattle.concentration.specs.SimmRules.declared.values.BucketMargin.{BucketMargin}
use Rattle.concentration.specs.SimmRules.Concentration.{one}
use Rattle.concentration.specs.SimmRules.Sums.{total_by, total_by_pairs}
use Rattle.concentration.specs.SimmRules.Bucket.{Weighted, plain, concentrated, squared, root_of, pair_sum, weighted_sum}
use Rattle.concentration.specs.SimmRules.Bucket.{bucket_value as value_of_factors}
use Rattle.pair_sum.proofs.OverLists.{pair_total-keys}
use Rattle.weighted_bucket.specs.declared.scaling.Scaling.{Scaling}
use Rattle.weighted_bucket.specs.declared.scaling.Scaling.TheVariants as scaling
use Rattle.weighted_bucket.specs.declared.weighed.Weighed.{Weighed}
use Rattle.weighted_bucket.specs.Bucket.{pairs_of, sum_of, gross_of, bucket_value}
use Rattle.weighted_bucket.specs.Correlated.{no_factor, cr_at, scaled, correlation}

-- the factor with this weighted value and this concentration factor
abbrev pub factor_of : ℤ → ℤ → Weighed
factor_of w cr = record { w = w; cr = record { 0 = cr } }

apart_alike : (t : Bool) (x y : ℤ) → (t ≡ false → x ≡ y) → (if t then one else x) ≡ (if t then one else y)
apart_alike true x y h = refl
apart_alike false x y h = h refl

-- W and CR are the weighted value and the concentration factor of a key, R the correlation of two keys that `same` tells apart
module _ {A : Type 0} (way : Scaling) (W : A → ℤ) (CR : A → ℤ) (R : A → A → ℤ) (same : A → A → Bool) (ks : List A) (d : A) where
  cr_is : (factors : List Weighed) (i : ℕ) → factors ≡ map (λ k. factor_of (W k) (CR k)) ks → i < length ks → cr_at factors i ≡ CR (get_or ks i d)
  cr_is factors i made p = ap (λ fs. ((get_or fs i no_factor).cr).0) made ∙ ap (λ (factor : Weighed). factor.cr.0) (get_or-map (λ k. factor_of (W k) (CR k)) ks i d no_factor p)

  correlation_is : (factors : List Weighed) (rho : ℕ → ℕ → ℤ) → factors ≡ map (λ k. factor_of (W k) (CR k)) ks → ((i j : ℕ) → i < length ks → j < length ks → i ≢ j → rho i j ≡ R (get_or ks i d) (get_or ks j d)) → ((i j : ℕ) → i < length ks → j < length ks → same (get_or ks i d) (get_or ks j d) ≡ (i == j)) → (i j : ℕ) → i < length ks → j < length ks → correlation way factors rho i j ≡ (if same (get_or ks i d) (get_or ks j d) then one else scaled way (R (get_or ks i d) (get_or ks j d)) (CR (get_or ks i d)) (CR (get_or ks j d)))
  correlation_is factors rho made rho_is tells i j p q =
      apart_alike (i == j) (scaled way (rho i j) (cr_at factors i) (cr_at factors j)) (scaled way (R (get_or ks i d) (get_or ks j d)) (CR (get_or ks i d)) (CR (get_or ks j d)))
      (λ apart. ap (λ r. scaled way r (cr_at factors i) (cr_at factors j)) (rho_is i j p q (λ e. false≢true (sym apart ∙ eq-eqb i j e)))
      ∙ ap (λ a. scaled way (R (get_or ks i d) (get_or ks j d)) a (cr_at factors j)) (cr_is factors i made p)
      ∙ ap (λ b. scaled way (R (get_or ks i d) (get_or ks j d)) (CR (get_or ks i d)) b) (cr_is factors j made q))
      ∙ ap (λ t. if t then one else scaled way (R (get_or ks i d) (get_or ks j d)) (CR (get_or ks i d)) (CR (get_or ks j d))) (sym (tells i j p q))

  pub pairs_of-keys : (factors : List Weighed) (rho : ℕ → ℕ → ℤ) → factors ≡ map (λ k. factor_of (W k) (CR k)) ks → ((i j : ℕ) → i < length ks → j < length ks → i ≢ j → rho i j ≡ R (get_or ks i d) (get_or ks j d)) → ((i j : ℕ) → i < length ks → j < length ks → same (get_or ks i d) (get_or ks j d) ≡ (i == j)) → pairs_of way factors rho ≡ total_by_pairs (λ k l. (if same k l then one else scaled way (R k l) (CR k) (CR l)) *ℤ W k *ℤ W l) ks
  pairs_of-keys factors rho made rho_is tells =
      pair_total-keys (λ k l. if same k l then one else scaled way (R k l) (CR k) (CR l)) W ks d (correlation way factors rho) (map (λ (factor : Weighed). factor.w) factors)
      (ap (map (λ (factor : Weighed). factor.w)) made ∙ map-map (λ (factor : Weighed). factor.w) (λ k. factor_of (W k) (CR k)) ks)
      (correlation_is factors rho made rho_is tells)

-- ---- the rule's value

-- a factor of the rule, by its weighted value and its concentration factor
abbrev pub weighed_as : {A : Type 0} → Weighted A → Weighed
weighed_as f = factor_of f.w f.cr

-- the rule's correlation of two factors
abbrev pub correlation_by : {A : Type 0} → Scaling → (A → A → Bool) → (A → A → ℤ) → Weighted A → Weighted A → ℤ
correlation_by scaling.Concentrated same R = concentrated same R
correlation_by scaling.Plain same R = plain same R
correlation_by scaling.Squared same R = squared same R

same_correlation : {A : Type 0} (way : Scaling) (same : A → A → Bool) (R : A → A → ℤ) (fs : List (Weighted A))
    → total_by_pairs (λ k l. (if same k.of l.of then one else scaled way (R k.of l.of) k.cr l.cr) *ℤ k.w *ℤ l.w) fs ≡ pair_sum (correlation_by way same R) fs
same_correlation scaling.Concentrated same R fs = refl
same_correlation scaling.Plain same R fs = refl
same_correlation scaling.Squared same R fs = refl

total_by-made : {A : Type 0} (f : Weighed → ℤ) (fs : List (Weighted A)) → total_by f (map weighed_as fs) ≡ total_by (λ k. f (weighed_as k)) fs
total_by-made f [] = refl
total_by-made f (k ∷ fs) = ap (λ z. f (weighed_as k) +ℤ z) (total_by-made f fs)

-- R is the parameters' correlation of what two factors are, which `same` tells apart
module _ {A : Type 0} (way : Scaling) (R : A → A → ℤ) (same : A → A → Bool) (fs : List (Weighted A)) (d : Weighted A) where
  pub bucket_value-factors : (factors : List Weighed) (rho : ℕ → ℕ → ℤ) (cr : ℤ) → factors ≡ map weighed_as fs
      → ((i j : ℕ) → i < length fs → j < length fs → i ≢ j → rho i j ≡ R (get_or fs i d).of (get_or fs j d).of)
      → ((i j : ℕ) → i < length fs → j < length fs → same (get_or fs i d).of (get_or fs j d).of ≡ (i == j))
      → bucket_value way factors rho (record { 0 = cr }) ≡ value_of_factors (correlation_by way same R) cr fs
  bucket_value-factors factors rho cr made rho_is tells =
      let q : pairs_of way factors rho ≡ pair_sum (correlation_by way same R) fs =
      pairs_of-keys way (λ k. k.w) (λ k. k.cr) (λ k l. R k.of l.of) (λ k l. same k.of l.of) fs d factors rho made rho_is tells ∙ same_correlation way same R fs in
      let sum : sum_of factors ≡ weighted_sum fs = ap sum_of made ∙ total_by-made (λ factor. factor.w) fs in
      let gross : gross_of factors ≡ total_by (λ k. pos (unsigned_abs k.w)) fs = ap gross_of made ∙ total_by-made (λ factor. pos (unsigned_abs factor.w)) fs in
      λ i. written (q i) (sum i) (gross i)
    where
      written : ℤ → ℤ → ℤ → BucketMargin
      written q sum gross = record { q = q; k = root_of q; s = clamp sum (root_of q); sum = sum; gross = gross; cr = record { 0 = cr } }
