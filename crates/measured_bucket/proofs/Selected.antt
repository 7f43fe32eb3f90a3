-- The sensitivities of one sort among the factors of a book.
use Rattle.std.proofs.Common.{◌≡◌, List, [], ◌∷◌, map, Bool, true, false, cond, Option, Some, None, refl, sym, ap, ◌∙◌, subst, ℤ}
use Rattle.std.specs.declared.cmp.Ordering.{Ordering}
use Rattle.std.specs.declared.cmp.Ordering.TheVariants.{Less}
use Rattle.std.specs.List.{filter, AllByRecursion}
use Rattle.std.specs.List.Sorted.{IsStrictlySortedBy}
use Rattle.std.proofs.lemmas.List.Kept.{IsStrictlySortedBy-filter}
use Rattle.std.proofs.lemmas.Simd.{map-map}
use Rattle.simm_params.specs.SimmKinds.declared.kinds.ProductClass.{ProductClass}
use Rattle.simm_params.specs.SimmKinds.declared.key.FactorKey.{FactorKey}
use Rattle.simm_params.specs.SimmKinds.Order.{same_product, key_cmp}
use Rattle.simm_params.proofs.SimmKinds.Orders.{key_total}
use Rattle.simm_params.specs.SimmRules.Net.{Sensitivity, sensitivities, keys_of}
use Rattle.simm_params.specs.SimmRules.Risks.{Risk, risk, Amount, select}
use Rattle.factor_book.specs.declared.place.Place.{Place}
use Rattle.factor_book.specs.declared.holding.Holding.{Holding}
use Rattle.factor_book.specs.Factors.{factor_of, factors_in, net_of, IsBook}
use Rattle.factor_book.specs.Places.{stands_at, factors_at}
use Rattle.factor_book.proofs.Sorting.{different_ascends}
use Rattle.measured_bucket.specs.Values.{nets_in, nets, nets_at}
use Rattle.measured_bucket.proofs.Lists.{each_both, each_map, each_unmap, kept_pass, map-filter, map-itself}

-- ---- the keys of a book are in order

key_of : FactorKey × Holding → FactorKey
key_of f = f.0

abbrev keys : List (FactorKey × Holding) → List FactorKey
keys fs = map (λ f. f.0) fs

keys-factors_in : (ss : List Sensitivity) → keys (factors_in ss) ≡ keys_of ss
keys-factors_in ss = map-map (λ (f : FactorKey × Holding). f.0) (factor_of ss) (keys_of ss) ∙ map-itself (λ k. (factor_of ss k).0) (λ k. refl) (keys_of ss)

pub book_ascends : (fs : List (FactorKey × Holding)) → IsBook fs → IsStrictlySortedBy key_cmp (keys fs)
book_ascends fs book =
    subst (IsStrictlySortedBy key_cmp) (sym (ap keys book.are ∙ keys-factors_in (sensitivities book.held)))
    (different_ascends key_cmp key_total (map (λ s. s.key) (sensitivities book.held)))

-- ---- those of a sort

module _ {A : Type 0} (sort : Risk → Option A) where
  pub select_none : (s : Sensitivity) (ss : List Sensitivity) → sort (risk s.key.factor) ≡ None → select sort (s ∷ ss) ≡ select sort ss
  select_none s ss e = rw e refl

  pub select_some : (s : Sensitivity) (ss : List Sensitivity) (x : A) → sort (risk s.key.factor) ≡ Some x → select sort (s ∷ ss) ≡ record { of = x; amount = s.amount } ∷ select sort ss
  select_some s ss x e = rw e refl

  -- ---- at a place

  module _ (f : FactorKey × Holding) where
    none_left : (t : Bool) (xs : List (FactorKey × Holding)) → sort (risk f.0.factor) ≡ None → select sort (map net_of (cond t (f ∷ xs) xs)) ≡ select sort (map net_of xs)
    none_left true xs e = select_none (net_of f) (map net_of xs) e
    none_left false xs e = refl

    none_right : (t : Bool) (ss : List Sensitivity) → sort (risk f.0.factor) ≡ None → select sort (cond t (net_of f ∷ ss) ss) ≡ select sort ss
    none_right true ss e = select_none (net_of f) ss e
    none_right false ss e = refl

    both_sides : (t : Bool) (x : A) (xs : List (FactorKey × Holding)) (ss : List Sensitivity) → sort (risk f.0.factor) ≡ Some x → select sort (map net_of xs) ≡ select sort ss → select sort (map net_of (cond t (f ∷ xs) xs)) ≡ select sort (cond t (net_of f ∷ ss) ss)
    both_sides true x xs ss e i = select_some (net_of f) (map net_of xs) x e ∙ ap (λ rest. record { of = x; amount = (f.1).net } ∷ rest) i ∙ sym (select_some (net_of f) ss x e)
    both_sides false x xs ss e i = i

  -- where all of a sort stand, each product class's are those of its place
  pub select_place : (place : Place) → ((k : FactorKey) (x : A) → sort (risk k.factor) ≡ Some x → stands_at place k ≡ same_product k.product place.product) → (fs : List (FactorKey × Holding)) → select sort (map net_of (factors_at place fs)) ≡ select sort (nets_in place.product fs)
  select_place place there [] = refl
  select_place place there (f ∷ fs) = at (sort (risk f.0.factor)) refl (select_place place there fs)
    where
      at : (o : Option A) → sort (risk f.0.factor) ≡ o → select sort (map net_of (factors_at place fs)) ≡ select sort (nets_in place.product fs) → select sort (map net_of (factors_at place (f ∷ fs))) ≡ select sort (nets_in place.product (f ∷ fs))
      at None e i = none_left f (stands_at place f.0) (factors_at place fs) e ∙ i ∙ sym (none_right f (same_product f.0.product place.product) (nets_in place.product fs) e)
      at (Some x) e i =
          ap (λ t. select sort (map net_of (cond t (f ∷ factors_at place fs) (factors_at place fs)))) (there f.0 x e)
          ∙ both_sides f (same_product f.0.product place.product) x (factors_at place fs) (nets_in place.product fs) e i

  -- and the nets of the place are theirs
  pub nets_place : (place : Place) → ((k : FactorKey) (x : A) → sort (risk k.factor) ≡ Some x → stands_at place k ≡ same_product k.product place.product) → ((k : FactorKey) → sort (risk k.factor) ≡ None → stands_at place k ≡ false) → (fs : List (FactorKey × Holding)) → nets_at place fs ≡ map (λ a. a.amount) (select sort (nets_in place.product fs))
  nets_place place there elsewhere [] = refl
  nets_place place there elsewhere (f ∷ fs) = at (sort (risk f.0.factor)) refl (nets_place place there elsewhere fs)
    where
      amounts : List Sensitivity → List ℤ
      amounts ss = map (λ a. a.amount) (select sort ss)

      kept : (t : Bool) (x : A) (xs : List (FactorKey × Holding)) (ss : List Sensitivity) → sort (risk f.0.factor) ≡ Some x → nets xs ≡ amounts ss → nets (cond t (f ∷ xs) xs) ≡ amounts (cond t (net_of f ∷ ss) ss)
      kept true x xs ss e i = ap (λ zs. (f.1).net ∷ zs) i ∙ sym (ap (map (λ (a : Amount A). a.amount)) (select_some (net_of f) ss x e))
      kept false x xs ss e i = i

      at : (o : Option A) → sort (risk f.0.factor) ≡ o → nets_at place fs ≡ amounts (nets_in place.product fs) → nets_at place (f ∷ fs) ≡ amounts (nets_in place.product (f ∷ fs))
      at None e i =
          ap (λ t. nets (cond t (f ∷ factors_at place fs) (factors_at place fs))) (elsewhere f.0 e) ∙ i
          ∙ sym (ap (map (λ (a : Amount A). a.amount)) (none_right f (same_product f.0.product place.product) (nets_in place.product fs) e))
      at (Some x) e i =
          ap (λ t. nets (cond t (f ∷ factors_at place fs) (factors_at place fs))) (there f.0 x e)
          ∙ kept (same_product f.0.product place.product) x (factors_at place fs) (nets_in place.product fs) e i

  -- and so are what another sort selects of the place, where it says of each what V does
  pub issuers_place : {B : Type 0} (other : Risk → Option B) (V : A → B) (place : Place) → ((k : FactorKey) (x : A) → sort (risk k.factor) ≡ Some x → stands_at place k ≡ same_product k.product place.product) → ((k : FactorKey) (x : A) → sort (risk k.factor) ≡ Some x → other (risk k.factor) ≡ Some (V x)) → ((k : FactorKey) → sort (risk k.factor) ≡ None → stands_at place k ≡ false) → (fs : List (FactorKey × Holding)) → select other (map net_of (factors_at place fs)) ≡ map (λ a. record { of = V a.of; amount = a.amount }) (select sort (nets_in place.product fs))
  issuers_place {B} other V place there says elsewhere [] = refl
  issuers_place {B} other V place there says elsewhere (f ∷ fs) = at (sort (risk f.0.factor)) refl (issuers_place other V place there says elsewhere fs)
    where
      views : List Sensitivity → List (Amount B)
      views ss = map (λ a. record { of = V a.of; amount = a.amount }) (select sort ss)

      others : List (FactorKey × Holding) → List (Amount B)
      others xs = select other (map net_of xs)

      kept : (t : Bool) (x : A) (xs : List (FactorKey × Holding)) (ss : List Sensitivity) → sort (risk f.0.factor) ≡ Some x → others xs ≡ views ss → others (cond t (f ∷ xs) xs) ≡ views (cond t (net_of f ∷ ss) ss)
      kept true x xs ss e i = rw (says f.0 x e) (ap (λ zs. record { of = V x; amount = (f.1).net } ∷ zs) i) ∙ sym (ap (map (λ (a : Amount A). record { of = V a.of; amount = a.amount })) (select_some (net_of f) ss x e))
      kept false x xs ss e i = i

      at : (o : Option A) → sort (risk f.0.factor) ≡ o → others (factors_at place fs) ≡ views (nets_in place.product fs) → others (factors_at place (f ∷ fs)) ≡ views (nets_in place.product (f ∷ fs))
      at None e i =
          ap (λ t. others (cond t (f ∷ factors_at place fs) (factors_at place fs))) (elsewhere f.0 e) ∙ i
          ∙ sym (ap (map (λ (a : Amount A). record { of = V a.of; amount = a.amount })) (none_right f (same_product f.0.product place.product) (nets_in place.product fs) e))
      at (Some x) e i =
          ap (λ t. others (cond t (f ∷ factors_at place fs) (factors_at place fs))) (there f.0 x e)
          ∙ kept (same_product f.0.product place.product) x (factors_at place fs) (nets_in place.product fs) e i

  -- ---- in order

  -- what is so of each key of the sort is so of each that is selected
  pub select_each : (Q : FactorKey → Type 0) (P : A → Type 0) → ((k : FactorKey) (x : A) → Q k → sort (risk k.factor) ≡ Some x → P x) → (ss : List Sensitivity) → AllByRecursion (λ s. Q s.key) ss → AllByRecursion (λ a. P a.of) (select sort ss)
  select_each Q P f [] h = tt
  select_each Q P f (s ∷ ss) h = at (sort (risk s.key.factor)) refl (select_each Q P f ss h.1)
    where
      at : (o : Option A) → sort (risk s.key.factor) ≡ o → AllByRecursion (λ a. P a.of) (select sort ss) → AllByRecursion (λ a. P a.of) (select sort (s ∷ ss))
      at None e i = subst (AllByRecursion (λ a. P a.of)) (sym (select_none s ss e)) i
      at (Some x) e i = subst (AllByRecursion (λ a. P a.of)) (sym (select_some s ss x e)) (f s.key x h.0 e, i)

  abbrev pub names : List (Amount A) → List A
  names amounts = map (λ a. a.of) amounts

  module _ (cmp : A → A → Ordering) (product : ProductClass) (less : (k l : FactorKey) (x y : A) → same_product k.product product ≡ true → same_product l.product product ≡ true → sort (risk k.factor) ≡ Some x → sort (risk l.factor) ≡ Some y → key_cmp k l ≡ Less → cmp x y ≡ Less) where
    abbrev is_in : Sensitivity → Bool
    is_in s = same_product s.key.product product

    ascends : (ss : List Sensitivity) → AllByRecursion (λ s. is_in s ≡ true) ss → IsStrictlySortedBy key_cmp (map (λ s. s.key) ss) → IsStrictlySortedBy cmp (names (select sort ss))
    unfolding IsStrictlySortedBy
    ascends [] h s = tt
    ascends (t ∷ ss) h s = at (sort (risk t.key.factor)) refl (ascends ss h.1 s.1)
      where
        at : (o : Option A) → sort (risk t.key.factor) ≡ o → IsStrictlySortedBy cmp (names (select sort ss)) → IsStrictlySortedBy cmp (names (select sort (t ∷ ss)))
        at None e i = subst (λ rest. IsStrictlySortedBy cmp (names rest)) (sym (select_none t ss e)) i
        at (Some x) e i =
            subst (λ rest. IsStrictlySortedBy cmp (names rest)) (sym (select_some t ss x e)) (
              each_map (λ y. cmp x y ≡ Less) (λ (a : Amount A). a.of) (select sort ss)
                  (select_each (λ l. (same_product l.product product ≡ true) × (key_cmp t.key l ≡ Less)) (λ y. cmp x y ≡ Less) (λ l y both g. less t.key l x y h.0 both.0 e g both.1) ss
                  (each_both (λ r. is_in r ≡ true) (λ r. key_cmp t.key r.key ≡ Less) ss h.1 (each_unmap (λ l. key_cmp t.key l ≡ Less) (λ (r : Sensitivity). r.key) ss s.0))),
              i,
            )

    -- those of a product class in a book
    pub select_ascends : (fs : List (FactorKey × Holding)) → IsBook fs → IsStrictlySortedBy cmp (names (select sort (nets_in product fs)))
    select_ascends fs book =
        ascends (nets_in product fs) (kept_pass is_in (map net_of fs))
        (subst (IsStrictlySortedBy key_cmp)
        (sym (map-filter (λ (s : Sensitivity). s.key) (λ k. same_product k.product product) (map net_of fs) ∙ ap (filter (λ k. same_product k.product product)) (map-map (λ (s : Sensitivity). s.key) net_of fs)))
        (IsStrictlySortedBy-filter key_cmp (λ k. same_product k.product product) (keys fs) (book_ascends fs book)))
