-- What stands on a side of a class, place by place, is what stands on it.
use Rattle.std.proofs.Common.{◌≡◌, List, [], ◌∷◌, map, Bool, true, false, ◌&&◌, ◌||◌, cond, refl, sym, ap, ◌∙◌, ℤ, pos, ◌+ℤ◌, ◌*ℤ◌, arith}
use Rattle.std.specs.Ordering.{is_eq}
use Rattle.std.specs.declared.cmp.Ordering.TheVariants.{Less}
use Rattle.std.specs.List.{filter, list_any, AllByRecursion}
use Rattle.std.specs.List.Sorted.{IsStrictlySortedBy}
use Rattle.std.proofs.lemmas.Bool.{false≢true, or_right}
use Rattle.std.proofs.lemmas.Cmp.{alike_right, eq_by_cmp_equiv, tied_itself}
use Rattle.std.proofs.lemmas.Int.{ints}
use Rattle.std.proofs.lemmas.Map.Keys.{sorted_head, sorted_tail}
use Rattle.simm_params.specs.SimmKinds.declared.kinds.ProductClass.{ProductClass}
use Rattle.simm_params.specs.SimmKinds.declared.kinds.RiskClass.{RiskClass}
use Rattle.simm_params.specs.SimmKinds.declared.key.FactorKey.{FactorKey}
use Rattle.simm_params.specs.SimmKinds.Factors.{class_of, side_of}
use Rattle.simm_params.specs.SimmKinds.Order.{same_product, same_class}
use Rattle.simm_params.proofs.SimmKinds.Variants.{is_eq-Equal}
use Rattle.simm_params.specs.SimmRules.Params.{Params}
use Rattle.simm_params.specs.SimmRules.Sums.{total_by, different}
use Rattle.simm_params.specs.SimmRules.Net.{Sensitivity, in_product}
use Rattle.simm_params.specs.Facts.{IsParams}
use Rattle.factor_book.specs.declared.holding.Holding.{Holding}
use Rattle.factor_book.specs.declared.place.BookSide.{BookSide}
use Rattle.factor_book.specs.declared.place.Place.{Place}
use Rattle.factor_book.specs.Address.{book_side, same_side}
use Rattle.factor_book.specs.Factors.{factors_in}
use Rattle.factor_book.specs.Place.{place_cmp, place_of, same_place}
use Rattle.factor_book.specs.Places.{factors_at, is_key_on, is_on, lent_at, places_of, stands_at, Lent}
use Rattle.factor_book.proofs.Held.{size_in}
use Rattle.factor_book.proofs.Netting.{sizes}
use Rattle.factor_book.proofs.Sorting.{any_different, different_ascends}
use Rattle.factor_book.proofs.Standing.{at_place, one_place, place_total}
use Rattle.factor_book.proofs.Sums.{total_by-map, total_by-agree, total_by-add, total_by-kept}
use Rattle.book_range.specs.Weights.{factor_weight}
use Rattle.book_range.specs.Gross.{side_size}
use Rattle.book_range.specs.Sizes.{sensitivity_size}
use Rattle.book_range.proofs.Lists.{each_weaker, filter_agrees}
use Rattle.book_range.proofs.Placed.{on_place}
use Rattle.book_range.proofs.Weighed.{sized, total_zero, weight_on}

-- ---- a term for one place, among places in order

module _ (z : ℤ) (q : Place) where
  abbrev only : Place → ℤ
  only b = cond (same_place q b) z (pos 0)

  only_none : (bs : List Place) → list_any (same_place q) bs ≡ false → total_by only bs ≡ pos 0
  only_none [] e = refl
  only_none (b ∷ bs) e = by (same_place q b) e (only_none bs)
    where
      by : (t : Bool) → (t || list_any (same_place q) bs) ≡ false → (list_any (same_place q) bs ≡ false → total_by only bs ≡ pos 0) → cond t z (pos 0) +ℤ total_by only bs ≡ pos 0
      by true e i = absurd (false≢true (sym e))
      by false e i = omega (arith, ints, i e)

  later : (b : Place) (bs : List Place) → same_place q b ≡ true → AllByRecursion (λ l. place_cmp b l ≡ Less) bs → list_any (same_place q) bs ≡ false
  later b [] e h = refl
  later b (l ∷ bs) e h = ap (λ o. is_eq o || list_any (same_place q) bs) (place_total.congr q b l (is_eq-Equal (place_cmp q b) e) ∙ h.0) ∙ later b bs e h.1

  only_one : (bs : List Place) → IsStrictlySortedBy place_cmp bs → list_any (same_place q) bs ≡ true → total_by only bs ≡ z
  only_one [] s e = absurd (false≢true e)
  only_one (b ∷ bs) s e = by (same_place q b) refl e (only_one bs (sorted_tail place_cmp b bs s))
    where
      by : (t : Bool) → same_place q b ≡ t → (t || list_any (same_place q) bs) ≡ true → (list_any (same_place q) bs ≡ true → total_by only bs ≡ z) → cond t z (pos 0) +ℤ total_by only bs ≡ z
      by true h e i = omega (arith, ints, only_none bs (later b bs h (sorted_head place_cmp b bs s)))
      by false h e i = omega (arith, ints, i e)

-- ---- sums place by place

module _ {X : Type 0} (v : X → ℤ) (at : X → Place) where
  abbrev in_place : List X → Place → List X
  in_place xs b = filter (λ x. same_place (at x) b) xs

  groups : (bs : List Place) (xs : List X) → IsStrictlySortedBy place_cmp bs → AllByRecursion (λ x. list_any (same_place (at x)) bs ≡ true) xs → total_by (λ b. total_by v (in_place xs b)) bs ≡ total_by v xs
  groups bs [] s h = total_zero bs
  groups bs (x ∷ xs) s h =
      total_by-agree (λ b. total_by v (in_place (x ∷ xs) b)) (λ b. only (v x) (at x) b +ℤ total_by v (in_place xs b)) (λ b. total_by-kept v x (in_place xs b) (same_place (at x) b)) bs
      ∙ total_by-add (only (v x) (at x)) (λ b. total_by v (in_place xs b)) bs
      ∙ (λ i. only_one (v x) (at x) bs s h.0 i +ℤ groups bs xs s h.1 i)

  own_places : (xs : List X) → AllByRecursion (λ x. list_any (same_place (at x)) (map at xs) ≡ true) xs
  own_places [] = tt
  own_places (x ∷ xs) = (
    ap (λ o. is_eq o || list_any (same_place (at x)) (map at xs)) (tied_itself place_total (at x)),
    each_weaker (λ y. list_any (same_place (at y)) (map at xs) ≡ true) (λ y. list_any (same_place (at y)) (map at (x ∷ xs)) ≡ true)
        (λ y h. or_right (same_place (at y) (at x)) (list_any (same_place (at y)) (map at xs)) h) xs (own_places xs),
  )

  pub all_groups : (xs : List X) → total_by (λ b. total_by v (in_place xs b)) (different place_cmp (map at xs)) ≡ total_by v xs
  all_groups xs =
      groups (different place_cmp (map at xs)) xs (different_ascends place_cmp place_total (map at xs))
      (each_weaker (λ x. list_any (same_place (at x)) (map at xs) ≡ true) (λ x. list_any (same_place (at x)) (different place_cmp (map at xs)) ≡ true)
      (λ x h. any_different place_cmp (same_place (at x)) (λ k l e. ap is_eq (alike_right place_total k l (at x) e)) (map at xs) ∙ h) xs (own_places xs))

kept_total : {X : Type 0} (v : X → ℤ) (p : X → Bool) (xs : List X) → total_by v (filter p xs) ≡ total_by (λ x. cond (p x) (v x) (pos 0)) xs
kept_total v p [] = refl
kept_total v p (x ∷ xs) = total_by-kept v x (filter p xs) (p x) ∙ ap (λ z. cond (p x) (v x) (pos 0) +ℤ z) (kept_total v p xs)

-- ---- what passes a test of places

module _ (test : Place → Bool) (v : FactorKey × Holding → ℤ) where
  abbrev chosen : FactorKey × Holding → ℤ
  chosen f = cond (test (place_of f.0)) (v f) (pos 0)

  abbrev at_it : Place → FactorKey × Holding → Bool
  at_it q f = same_place (place_of f.0) q

  -- of those at one place all pass it or none does
  at_one : (q : Place) (fs : List (FactorKey × Holding)) → total_by chosen (filter (at_it q) fs) ≡ cond (test q) (total_by v (filter (at_it q) fs)) (pos 0)
  at_one q fs =
      kept_total chosen (at_it q) fs
      ∙ total_by-agree (λ (f : FactorKey × Holding). cond (at_it q f) (chosen f) (pos 0)) (λ f. cond (test q) (cond (at_it q f) (v f) (pos 0)) (pos 0)) (λ f. each f (at_it q f) refl (test q) refl) fs
      ∙ all_or_none (test q) ∙ ap (λ z. cond (test q) z (pos 0)) (sym (kept_total v (at_it q) fs))
    where
      each : (f : FactorKey × Holding) (t : Bool) → at_it q f ≡ t → (u : Bool) → test q ≡ u → cond t (chosen f) (pos 0) ≡ cond u (cond t (v f) (pos 0)) (pos 0)
      each f true e u h = ap (λ b. cond b (v f) (pos 0)) (ap test (one_place (place_of f.0) q e) ∙ h)
      each f false e true h = refl
      each f false e false h = refl

      all_or_none : (u : Bool) → total_by (λ (f : FactorKey × Holding). cond u (cond (at_it q f) (v f) (pos 0)) (pos 0)) fs ≡ cond u (total_by (λ f. cond (at_it q f) (v f) (pos 0)) fs) (pos 0)
      all_or_none true = refl
      all_or_none false = total_zero fs

  there_is : (q : Place) (fs : List (FactorKey × Holding)) → factors_at q fs ≡ filter (at_it q) fs
  there_is q fs = filter_agrees (λ (f : FactorKey × Holding). stands_at q f.0) (at_it q) (λ f. at_place q f.0 ∙ (eq_by_cmp_equiv place_total).symm q (place_of f.0)) fs

  pub place_totals : (fs : List (FactorKey × Holding)) → total_by (λ (lent : Lent). total_by v lent.factors) (filter (λ lent. test lent.place) (map (lent_at fs) (places_of fs))) ≡ total_by chosen fs
  place_totals fs =
      kept_total (λ (lent : Lent). total_by v lent.factors) (λ lent. test lent.place) (map (lent_at fs) (places_of fs))
      ∙ total_by-map (λ (lent : Lent). cond (test lent.place) (total_by v lent.factors) (pos 0)) (lent_at fs) (places_of fs)
      ∙ total_by-agree (λ q. cond (test q) (total_by v (factors_at q fs)) (pos 0)) (λ q. total_by chosen (filter (at_it q) fs))
      (λ q. ap (λ gs. cond (test q) (total_by v gs) (pos 0)) (there_is q fs) ∙ sym (at_one q fs)) (places_of fs)
      ∙ all_groups chosen (λ f. place_of f.0) fs

-- ---- a side of a class

module _ (p : Params) (c : ProductClass) (k : RiskClass) (on : BookSide) (ss : List Sensitivity) where
  abbrev weight : FactorKey → ℤ
  weight key = cond (is_key_on c k on key) (factor_weight p key.factor) (pos 0)

  on_side_times : (key : FactorKey) (z : ℤ) → cond (is_on c k on (place_of key)) (z *ℤ factor_weight p key.factor) (pos 0) ≡ z *ℤ weight key
  on_side_times key z = ap (λ t. cond t (z *ℤ factor_weight p key.factor) (pos 0)) (on_place c k on key) ∙ cond_times (is_key_on c k on key)
    where
      cond_times : (t : Bool) → cond t (z *ℤ factor_weight p key.factor) (pos 0) ≡ z *ℤ cond t (factor_weight p key.factor) (pos 0)
      cond_times true = refl
      cond_times false = omega (arith, ints)

  -- the size of a side by its factors is that of the amounts on it
  pub side_rows : side_size p (factors_in ss) c k on ≡ total_by (sensitivity_size p c k on) ss
  side_rows =
      place_totals (is_on c k on) (λ f. (f.1).size *ℤ factor_weight p f.0.factor) (factors_in ss)
      ∙ total_by-agree (λ (f : FactorKey × Holding). cond (is_on c k on (place_of f.0)) ((f.1).size *ℤ factor_weight p f.0.factor) (pos 0)) (λ f. (f.1).size *ℤ weight f.0) (λ f. on_side_times f.0 (f.1).size) (factors_in ss)
      ∙ sizes weight ss

module _ (p : Params) (facts : IsParams p) (product : ProductClass) (c : RiskClass) (b : BookSide) (ss : List Sensitivity) where
  cond_both : (s t : Bool) (z w : ℤ) → cond s (z *ℤ cond t w (pos 0)) (pos 0) ≡ z *ℤ cond (s && t) w (pos 0)
  cond_both true t z w = refl
  cond_both false t z w = omega (arith, ints)

  -- and that of the amounts of its class
  pub gross_is : side_size p (factors_in ss) product c b ≡ total_by (sized (weight_on p facts c b)) (in_product product ss)
  gross_is =
      side_rows p product c b ss
      ∙ sym (kept_total (sized (weight_on p facts c b)) (λ s. same_product s.key.product product) ss
      ∙ total_by-agree (λ s. cond (same_product s.key.product product) (sized (weight_on p facts c b) s) (pos 0)) (sensitivity_size p product c b)
      (λ s. cond_both (same_product s.key.product product) (same_class (class_of s.key.factor) c && same_side (book_side (side_of s.key.factor)) b) (size_in s) (factor_weight p s.key.factor)) ss)
