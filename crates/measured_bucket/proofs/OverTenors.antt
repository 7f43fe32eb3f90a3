-- Things that have volatilities at tenors: what those of each come to over its tenors, each net times what its tenor counts.
use Rattle.std.proofs.Common.{◌≡◌, List, [], ◌∷◌, map, Bool, refl, sym, ap, ◌∙◌, subst, ℤ, ◌*ℤ◌, inl, inr, arith}
use Rattle.std.specs.declared.cmp.Ordering.{Ordering}
use Rattle.std.specs.declared.cmp.Ordering.TheVariants.{Less, Equal, Greater}
use Rattle.std.specs.Ordering.{nat_cmp, ordering_then, is_eq}
use Rattle.std.specs.Cmp.{IsTotalOrder}
use Rattle.std.specs.List.{filter}
use Rattle.std.specs.List.Sorted.{IsStrictlySortedBy}
use Rattle.std.proofs.lemmas.Int.{ints}
use Rattle.std.proofs.lemmas.Map.Lookups.{CmpEqualImpliesEq}
use Rattle.std.proofs.lemmas.Simd.{map-map}
use Rattle.simm_params.specs.SimmKinds.declared.kinds.Tenor.{Tenor}
use Rattle.simm_params.specs.SimmKinds.Order.{tenor_place}
use Rattle.simm_params.specs.SimmRules.Sums.{total_by, different}
use Rattle.simm_params.specs.SimmRules.Risks.{Amount}
use Rattle.factor_book.proofs.Sorting.{different_ascends}
use Rattle.factor_book.proofs.Sums.{total_by-map}
use Rattle.measured_bucket.proofs.Lists.{each_weaker, each_map, each_unmap, map-filter, map-itself, maps_agree}
use Rattle.measured_bucket.specs.declared.tenor_scale.TenorScale.{TenorScale}
use Rattle.measured_bucket.specs.declared.tenor_scale.TenorScale.TheVariants as scale
use Rattle.measured_bucket.specs.Scale.{scale_by}
use Rattle.measured_bucket.specs.Runs.{summed}
use Rattle.measured_bucket.proofs.Together.{NotAfter, Ascends, sum_to, runs_are}

-- what volatilities V are of, in its order, and at which tenor
pub record Things (K V : Type 0) : Type 0 where
  pub cmp : K → K → Ordering
  pub order : IsTotalOrder cmp
  pub exact : CmpEqualImpliesEq cmp
  pub same : K → K → Bool
  pub tests : (x y : K) → same x y ≡ is_eq (cmp x y)
  pub key : V → K
  pub tenor : V → Tenor

module _ {K V : Type 0} (things : Things K V) where
  abbrev pub keys : List (Amount V) → List K
  keys amounts = different things.cmp (map (λ a. things.key a.of) amounts)

  pub keys_ascend : (amount : K → ℤ) (amounts : List (Amount V)) → IsStrictlySortedBy things.cmp (map (λ (a : Amount K). a.of) (map (λ k. record { of = k; amount = amount k }) (keys amounts)))
  keys_ascend amount amounts =
      let with_amount : K → Amount K = λ k. record { of = k; amount = amount k } in
      subst (IsStrictlySortedBy things.cmp) (sym (map-map (λ (a : Amount K). a.of) with_amount (keys amounts) ∙ map-itself (λ k. k) (λ k. refl) (keys amounts)))
      (different_ascends things.cmp things.order (map (λ (a : Amount V). things.key a.of) amounts))

  -- the amounts to one, and those by tenor
  abbrev pub own : List (Amount V) → K → List (Amount V)
  own amounts k = filter (λ a. things.same (things.key a.of) k) amounts

  abbrev pub tenors : List (Amount V) → K → List (Amount Tenor)
  tenors amounts k = map (λ a. record { of = things.tenor a.of; amount = a.amount }) (own amounts k)

  -- what they come to, each times what its tenor counts
  abbrev pub total : TenorScale → List (Amount V) → K → ℤ
  total s amounts k = total_by (λ a. scale_by s a.of *ℤ a.amount) (tenors amounts k)

  abbrev pub totals : TenorScale → List (Amount V) → List (Amount K)
  totals s amounts = map (λ k. record { of = k; amount = total s amounts k }) (keys amounts)

  abbrev pub scaled : TenorScale → Amount V → Amount K
  scaled s a = record { of = things.key a.of; amount = scale_by s (things.tenor a.of) *ℤ a.amount }

  -- by what they are of, and then by tenor
  abbrev pub volatility_cmp : V → V → Ordering
  volatility_cmp x y = ordering_then (things.cmp (things.key x) (things.key y)) (nat_cmp (tenor_place (things.tenor x)) (tenor_place (things.tenor y)))

  abbrev NoLater : K → K → Type 0
  NoLater = NotAfter things.cmp things.order things.same things.tests

  -- a volatility that comes before another is of nothing later
  key_first : (x y : V) → volatility_cmp x y ≡ Less → NoLater (things.key x) (things.key y)
  key_first x y h = by (things.cmp (things.key x) (things.key y)) refl h
    where
      by : (o : Ordering) → things.cmp (things.key x) (things.key y) ≡ o → ordering_then o (nat_cmp (tenor_place (things.tenor x)) (tenor_place (things.tenor y))) ≡ Less → NoLater (things.key x) (things.key y)
      by Less e g = inl e
      by Equal e g = inr e
      by Greater e g = absurd (cc)

  module _ (s : TenorScale) where
    ascend : (amounts : List (Amount V)) → IsStrictlySortedBy volatility_cmp (map (λ a. a.of) amounts) → Ascends things.cmp things.order things.same things.tests (map (scaled s) amounts)
    unfolding IsStrictlySortedBy
    ascend [] h = tt
    ascend (a ∷ amounts) h = (
      each_map (λ (b : Amount K). NoLater (things.key a.of) b.of) (scaled s) amounts
          (each_weaker (λ (b : Amount V). volatility_cmp a.of b.of ≡ Less) (λ b. NoLater (things.key a.of) (things.key b.of)) (λ b its. key_first a.of b.of its) amounts
          (each_unmap (λ y. volatility_cmp a.of y ≡ Less) (λ (b : Amount V). b.of) amounts h.0)),
      ascend amounts h.1,
    )

    -- ---- the sums of the runs are those

    total_of : (amounts : List (Amount V)) (k : K) → total_by (λ a. a.amount) (filter (λ a. things.same a.of k) (map (scaled s) amounts)) ≡ total s amounts k
    total_of amounts k =
        ap (total_by (λ (a : Amount K). a.amount)) (sym (map-filter (scaled s) (λ (a : Amount K). things.same a.of k) amounts))
        ∙ total_by-map (λ (a : Amount K). a.amount) (scaled s) (own amounts k)
        ∙ sym (total_by-map (λ (a : Amount Tenor). scale_by s a.of *ℤ a.amount) (λ (a : Amount V). record { of = things.tenor a.of; amount = a.amount }) (own amounts k))

    pub totals_are : (amounts : List (Amount V)) → IsStrictlySortedBy volatility_cmp (map (λ a. a.of) amounts) → summed things.same (map (scaled s) amounts) ≡ totals s amounts
    totals_are amounts ascends =
        let of_run = sum_to things.cmp things.order things.same things.tests (map (scaled s) amounts) in
        runs_are things.cmp things.order things.same things.tests (map (scaled s) amounts) (ascend amounts ascends)
        ∙ ap (λ ks. map of_run (different things.cmp ks)) (map-map (λ (a : Amount K). a.of) (scaled s) amounts)
        ∙ maps_agree of_run (λ k. record { of = k; amount = total s amounts k }) (λ k. ap (λ z. record { of = k; amount = z }) (total_of amounts k)) (keys amounts)

  -- ---- where each tenor counts once, the sums are those of the nets

  total-even : (xs : List (Amount Tenor)) → total_by (λ a. scale_by scale.Even a.of *ℤ a.amount) xs ≡ total_by (λ a. a.amount) xs
  total-even [] = refl
  total-even (x ∷ xs) = omega (arith, ints, total-even xs)

  pub net-even : (amounts : List (Amount V)) (k : K) → total scale.Even amounts k ≡ total_by (λ a. a.amount) (tenors amounts k)
  net-even amounts k = total-even (tenors amounts k)

  pub totals-even : (amounts : List (Amount V)) → totals scale.Even amounts ≡ map (λ k. record { of = k; amount = total_by (λ a. a.amount) (tenors amounts k) }) (keys amounts)
  totals-even amounts =
      maps_agree (λ k. record { of = k; amount = total scale.Even amounts k }) (λ k. record { of = k; amount = total_by (λ a. a.amount) (tenors amounts k) })
      (λ k. ap (λ z. record { of = k; amount = z }) (net-even amounts k)) (keys amounts)
