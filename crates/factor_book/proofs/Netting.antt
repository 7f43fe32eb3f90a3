-- What the factors of sensitivities say of the sensitivities.
use Rattle.std.proofs.Common.{◌≡◌, List, [], ◌∷◌, map, Bool, true, false, ◌||◌, cond, None, refl, sym, ap, ◌∙◌, ℤ, pos, ◌+ℤ◌, ◌*ℤ◌, arith}
use Rattle.std.specs.Ordering.{is_eq}
use Rattle.std.specs.declared.cmp.Ordering.TheVariants.{Less}
use Rattle.std.specs.List.{filter, list_any, AllByRecursion}
use Rattle.std.specs.List.Sorted.{IsStrictlySortedBy}
use Rattle.std.proofs.lemmas.Bool.{false≢true}
use Rattle.std.proofs.lemmas.Int.{ints}
use Rattle.std.proofs.lemmas.Map.Entries.{lookup-filter-keys}
use Rattle.std.proofs.lemmas.Map.Keys.{sorted_head, sorted_tail}
use Rattle.simm_rules.proofs.MhUnits.Integers.{add-mul_ℤ}
use Rattle.simm_rules.specs.SimmKinds.declared.key.FactorKey.{FactorKey}
use Rattle.simm_rules.specs.SimmKinds.Order.{same_key, key_cmp}
use Rattle.simm_rules.specs.Sums.{total_by}
use Rattle.simm_rules.specs.Net.{Sensitivity, net, keys_of, netted}
use Rattle.factor_book.specs.Factors.{factor_of, factors_in, net_of}
use Rattle.simm_rules.proofs.SimmKinds.Orders.{key_total}
use Rattle.factor_book.proofs.Keys.{same_key_refl, one_key}
use Rattle.factor_book.proofs.Sorting.{different_ascends, filter_ascends, each_weaker}
use Rattle.factor_book.proofs.Grouping.{or_right}
use Rattle.factor_book.proofs.Sums.{total_by-map, total_by-agree, total_by-add, total_by-kept}
use Rattle.factor_book.proofs.Held.{of_key, summed, come_to, size_in, factors_ascend, lookup-factors, factors_from, any_key}

pub nets : (ss : List Sensitivity) → map net_of (factors_in ss) ≡ netted ss
nets ss = over (keys_of ss)
  where
    over : (ks : List FactorKey) → map net_of (map (factor_of ss) ks) ≡ map (λ k. record { key = k; amount = net ss k }) ks
    over [] = refl
    over (k ∷ ks) = ap (λ rest. net_of (factor_of ss k) ∷ rest) (over ks)

-- ---- those whose keys pass a test

module _ (test : FactorKey → Bool) (k : FactorKey) where
  kept : (s : Sensitivity) (part rest : List Sensitivity) (t u : Bool) → test s.key ≡ t → same_key s.key k ≡ u → of_key k part ≡ cond (test k) rest []
      → of_key k (cond t (s ∷ part) part) ≡ cond (test k) (cond u (s ∷ rest) rest) []
  kept s part rest true true e h i =
      let passes : test k ≡ true = ap test (sym (one_key s.key k h)) ∙ e in
      ap (λ b. cond b (s ∷ of_key k part) (of_key k part)) h ∙ ap (λ xs. s ∷ xs) i ∙ ap (λ b. s ∷ cond b rest []) passes ∙ sym (ap (λ b. cond b (s ∷ rest) []) passes)
  kept s part rest true false e h i = ap (λ b. cond b (s ∷ of_key k part) (of_key k part)) h ∙ i
  kept s part rest false true e h i =
      let fails : test k ≡ false = ap test (sym (one_key s.key k h)) ∙ e in
      i ∙ ap (λ b. cond b rest []) fails ∙ sym (ap (λ b. cond b (s ∷ rest) []) fails)
  kept s part rest false false e h i = i

  of_key-part : (ss : List Sensitivity) → of_key k (filter (λ s. test s.key) ss) ≡ cond (test k) (of_key k ss) []
  of_key-part [] = none [] (test k)
    where
      none : (xs : List Sensitivity) (t : Bool) → xs ≡ cond t xs xs
      none xs true = refl
      none xs false = refl
  of_key-part (s ∷ ss) = kept s (filter (λ x. test x.key) ss) (of_key k ss) (test s.key) (same_key s.key k) refl refl (of_key-part ss)

  summed-cond : (t : Bool) (xs : List Sensitivity) → summed (cond t xs []) ≡ cond t (summed xs) None
  summed-cond true xs = refl
  summed-cond false xs = refl

  pub come_to-part : (ss : List Sensitivity) → come_to (filter (λ s. test s.key) ss) k ≡ cond (test k) (come_to ss k) None
  come_to-part ss = ap summed (of_key-part ss) ∙ summed-cond (test k) (of_key k ss)

pub parts : (ss : List Sensitivity) (test : FactorKey → Bool) → filter (λ f. test f.0) (factors_in ss) ≡ factors_in (filter (λ s. test s.key) ss)
parts ss test =
    factors_from (filter (λ f. test f.0) (factors_in ss)) (filter (λ s. test s.key) ss) (filter_ascends key_cmp test (factors_in ss) (factors_ascend ss))
    (λ k. lookup-filter-keys (same_key k) test (test k) (λ l e. ap test (sym (one_key k l e))) (factors_in ss)
    ∙ ap (λ o. cond (test k) o None) (lookup-factors ss k) ∙ sym (come_to-part test k ss))

-- ---- weighted sizes

-- a term for one key, among keys in order
module _ (x : FactorKey → ℤ) (key : FactorKey) where
  abbrev only : FactorKey → ℤ
  only k = cond (same_key key k) (x k) (pos 0)

  only_none : (ks : List FactorKey) → list_any (same_key key) ks ≡ false → total_by only ks ≡ pos 0
  only_none [] e = refl
  only_none (k ∷ ks) e = by (same_key key k) e (only_none ks)
    where
      by : (t : Bool) → (t || list_any (same_key key) ks) ≡ false → (list_any (same_key key) ks ≡ false → total_by only ks ≡ pos 0) → cond t (x k) (pos 0) +ℤ total_by only ks ≡ pos 0
      by true e i = absurd (false≢true (sym e))
      by false e i = omega (arith, ints, i e)

  above : (k : FactorKey) (ks : List FactorKey) → same_key key k ≡ true → AllByRecursion (λ l. key_cmp k l ≡ Less) ks → list_any (same_key key) ks ≡ false
  above k [] e h = refl
  above k (l ∷ ks) e h = ap (λ t. t || list_any (same_key key) ks) (ap (λ m. same_key m l) (one_key key k e) ∙ ap is_eq h.0) ∙ above k ks e h.1

  only_one : (ks : List FactorKey) → IsStrictlySortedBy key_cmp ks → list_any (same_key key) ks ≡ true → total_by only ks ≡ x key
  only_one [] s e = absurd (false≢true e)
  only_one (k ∷ ks) s e = by (same_key key k) refl e (only_one ks (sorted_tail key_cmp k ks s))
    where
      by : (t : Bool) → same_key key k ≡ t → (t || list_any (same_key key) ks) ≡ true → (list_any (same_key key) ks ≡ true → total_by only ks ≡ x key) → cond t (x k) (pos 0) +ℤ total_by only ks ≡ x key
      by true h e i = omega (arith, ints, only_none ks (above k ks h (sorted_head key_cmp k ks s)), ap x (one_key key k h))
      by false h e i = omega (arith, ints, i e)

module _ (weight : FactorKey → ℤ) where
  abbrev weighed : List Sensitivity → FactorKey → ℤ
  weighed ss k = total_by size_in (of_key k ss) *ℤ weight k

  cond-mul : (t : Bool) (a w : ℤ) → cond t a (pos 0) *ℤ w ≡ cond t (a *ℤ w) (pos 0)
  cond-mul true a w = refl
  cond-mul false a w = omega (arith, ints)

  weighed_more : (s : Sensitivity) (ss : List Sensitivity) (k : FactorKey) → weighed (s ∷ ss) k ≡ cond (same_key s.key k) (size_in s *ℤ weight k) (pos 0) +ℤ weighed ss k
  weighed_more s ss k =
      ap (λ n. n *ℤ weight k) (total_by-kept size_in s (of_key k ss) (same_key s.key k))
      ∙ add-mul_ℤ (cond (same_key s.key k) (size_in s) (pos 0)) (total_by size_in (of_key k ss)) (weight k)
      ∙ ap (λ n. n +ℤ weighed ss k) (cond-mul (same_key s.key k) (size_in s) (weight k))

  weighed_none : (ks : List FactorKey) → total_by (weighed []) ks ≡ pos 0
  weighed_none [] = refl
  weighed_none (k ∷ ks) = omega (arith, ints, weighed_none ks)

  -- over keys in order, among which are those of the sensitivities
  over_keys : (ks : List FactorKey) (ss : List Sensitivity) → IsStrictlySortedBy key_cmp ks → AllByRecursion (λ s. list_any (same_key s.key) ks ≡ true) ss
      → total_by (weighed ss) ks ≡ total_by (λ s. size_in s *ℤ weight s.key) ss
  over_keys ks [] ascend h = weighed_none ks
  over_keys ks (s ∷ ss) ascend h =
      total_by-agree (weighed (s ∷ ss)) (λ k. cond (same_key s.key k) (size_in s *ℤ weight k) (pos 0) +ℤ weighed ss k) (weighed_more s ss) ks
      ∙ total_by-add (λ k. cond (same_key s.key k) (size_in s *ℤ weight k) (pos 0)) (weighed ss) ks
      ∙ (λ i. only_one (λ k. size_in s *ℤ weight k) s.key ks ascend h.0 i +ℤ over_keys ks ss ascend h.1 i)

  own_keys : (ss : List Sensitivity) → AllByRecursion (λ s. list_any (same_key s.key) (map (λ x. x.key) ss) ≡ true) ss
  own_keys [] = tt
  own_keys (s ∷ ss) = (
    ap (λ t. t || list_any (same_key s.key) (map (λ x. x.key) ss)) (same_key_refl s.key),
    each_weaker (λ (x : Sensitivity). list_any (same_key x.key) (map (λ y. y.key) ss) ≡ true) (λ (x : Sensitivity). list_any (same_key x.key) (map (λ y. y.key) (s ∷ ss)) ≡ true)
        (λ x h. or_right (same_key x.key s.key) (list_any (same_key x.key) (map (λ y. y.key) ss)) h) ss (own_keys ss),
  )

  pub sizes : (ss : List Sensitivity) → total_by (λ f. (f.1).size *ℤ weight f.0) (factors_in ss) ≡ total_by (λ s. size_in s *ℤ weight s.key) ss
  sizes ss =
      total_by-map (λ f. (f.1).size *ℤ weight f.0) (factor_of ss) (keys_of ss)
      ∙ over_keys (keys_of ss) ss (different_ascends key_cmp key_total (map (λ s. s.key) ss))
      (each_weaker (λ (s : Sensitivity). list_any (same_key s.key) (map (λ x. x.key) ss) ≡ true) (λ (s : Sensitivity). list_any (same_key s.key) (keys_of ss) ≡ true)
      (λ s h. any_key ss s.key ∙ h) ss (own_keys ss))
