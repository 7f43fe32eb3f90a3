-- Books some of whose rows go: a key goes with them where no row of it is left.
use Rattle.std.proofs.Common.{◌≡◌, ℕ, ◌+◌, List, [], ◌∷◌, ◌++◌, map, length, Bool, true, false, not, ◌&&◌, ◌==◌, cond, refl, sym, ap, ◌∙◌, arith}
use Rattle.std.specs.Prelude.{count_by}
use Rattle.std.specs.List.{filter, flat_map, list_any}
use Rattle.std.specs.List.Sorted.{IsStrictlySortedBy}
use Rattle.std.proofs.lemmas.Bool.Decides.{nat_tests}
use Rattle.std.proofs.lemmas.List.Filters.{length-filter_both}
use Rattle.std.proofs.lemmas.List.Kept.{IsStrictlySortedBy-filter}
use Rattle.std.proofs.lemmas.List.Sorted.{sum_by-IsPermutation}
use Rattle.std.proofs.lemmas.List.Sums.{sum_by-cons, sum_by-append}
use Rattle.std.proofs.lemmas.Map.Views.{any-filter_same}
use Rattle.simm_rules.specs.SimmKinds.declared.key.FactorKey.{FactorKey}
use Rattle.simm_rules.specs.SimmKinds.Order.{same_key, key_cmp}
use Rattle.simm_rules.proofs.SimmKinds.Orders.{key_total, exact_keys}
use Rattle.simm_rules.specs.Net.{Sensitivity, sensitivities, keys_of}
use Rattle.factor_book.specs.declared.holding.Holding.{Holding}
use Rattle.factor_book.specs.declared.place.Place.{Place}
use Rattle.factor_book.specs.Factors.{factor_of, factors_in, count_of, IsWithout}
use Rattle.factor_book.specs.Holdings.{rows_in, goes}
use Rattle.factor_book.specs.Places.{Lent, stands_at, factors_at, by_place}
use Rattle.factor_book.proofs.Keys.{one_key}
use Rattle.factor_book.proofs.Sorting.{same_items, different_ascends}
use Rattle.factor_book.proofs.Held.{count-append, rows_in-come_to, lookup-factors, there}
use Rattle.factor_book.proofs.Placed.{all_places}
use Rattle.factor_book.proofs.Rows.{sensitivities-append}

-- ---- lists

filter_swap : {X : Type 0} (p q : X → Bool) (xs : List X) → filter p (filter q xs) ≡ filter q (filter p xs)
filter_swap p q [] = refl
filter_swap p q (x ∷ xs) = by (p x) (q x) refl refl (filter_swap p q xs)
  where
    by : (s t : Bool) → p x ≡ s → q x ≡ t → filter p (filter q xs) ≡ filter q (filter p xs) → filter p (cond t (x ∷ filter q xs) (filter q xs)) ≡ filter q (cond s (x ∷ filter p xs) (filter p xs))
    by true true e f i = ap (λ b. cond b (x ∷ filter p (filter q xs)) (filter p (filter q xs))) e ∙ ap (λ ys. x ∷ ys) i ∙ sym (ap (λ b. cond b (x ∷ filter q (filter p xs)) (filter q (filter p xs))) f)
    by true false e f i = i ∙ sym (ap (λ b. cond b (x ∷ filter q (filter p xs)) (filter q (filter p xs))) f)
    by false true e f i = ap (λ b. cond b (x ∷ filter p (filter q xs)) (filter p (filter q xs))) e ∙ i
    by false false e f i = i

filter_map_keys : (t : FactorKey → Bool) (ss : List Sensitivity) (ks : List FactorKey) → filter (λ f. t f.0) (map (factor_of ss) ks) ≡ map (factor_of ss) (filter t ks)
filter_map_keys t ss [] = refl
filter_map_keys t ss (k ∷ ks) = by (t k) (filter_map_keys t ss ks)
  where
    by : (b : Bool) → filter (λ f. t f.0) (map (factor_of ss) ks) ≡ map (factor_of ss) (filter t ks)
        → cond b (factor_of ss k ∷ filter (λ f. t f.0) (map (factor_of ss) ks)) (filter (λ f. t f.0) (map (factor_of ss) ks)) ≡ map (factor_of ss) (cond b (k ∷ filter t ks) (filter t ks))
    by true i = ap (λ fs. factor_of ss k ∷ fs) i
    by false i = i

length_map_keys : (ss : List Sensitivity) (ks : List FactorKey) → length (map (factor_of ss) ks) ≡ length ks
length_map_keys ss [] = refl
length_map_keys ss (k ∷ ks) = omega (arith, length_map_keys ss ks)

-- ---- which keys are left, and which go

module _ (hs gs : List Sensitivity) where
  -- none of its sensitivities is left
  abbrev none_left : FactorKey → Bool
  none_left k = count_of hs k == 0

  abbrev is_left : FactorKey → Bool
  is_left k = not (none_left k)

  ascends : (ss : List Sensitivity) → IsStrictlySortedBy key_cmp (keys_of ss)
  ascends ss = different_ascends key_cmp key_total (map (λ s. s.key) ss)

  all_there : (k : FactorKey) → list_any (same_key k) (keys_of (hs ++ gs)) ≡ not (count_of hs k + count_of gs k == 0)
  all_there k = there (hs ++ gs) k ∙ ap (λ n. not (n == 0)) (count-append hs gs k)

  among : (p : FactorKey → Bool) (k : FactorKey) (ks : List FactorKey) → list_any (same_key k) (filter p ks) ≡ (p k && list_any (same_key k) ks)
  among p k ks = any-filter_same (same_key k) p (p k) (λ l e. ap p (sym (one_key k l e))) ks

  left_or : (m n : ℕ) → (not (m == 0) && not (m + n == 0)) ≡ not (m == 0)
  left_or m n = grind (arith, nat_tests)

  gone_or : (m n : ℕ) → ((m == 0) && not (m + n == 0)) ≡ ((m == 0) && not (n == 0))
  gone_or m n = grind (arith, nat_tests)

  keys_left_are : filter is_left (keys_of (hs ++ gs)) ≡ keys_of hs
  keys_left_are =
      same_items key_total exact_keys (filter is_left (keys_of (hs ++ gs))) (keys_of hs) (IsStrictlySortedBy-filter key_cmp is_left (keys_of (hs ++ gs)) (ascends (hs ++ gs))) (ascends hs)
      (λ k. among is_left k (keys_of (hs ++ gs)) ∙ ap (λ t. is_left k && t) (all_there k) ∙ left_or (count_of hs k) (count_of gs k) ∙ sym (there hs k))

  keys_gone_are : filter none_left (keys_of (hs ++ gs)) ≡ filter none_left (keys_of gs)
  keys_gone_are =
      same_items key_total exact_keys (filter none_left (keys_of (hs ++ gs))) (filter none_left (keys_of gs))
      (IsStrictlySortedBy-filter key_cmp none_left (keys_of (hs ++ gs)) (ascends (hs ++ gs))) (IsStrictlySortedBy-filter key_cmp none_left (keys_of gs) (ascends gs))
      (λ k.
      among none_left k (keys_of (hs ++ gs)) ∙ ap (λ t. none_left k && t) (all_there k) ∙ gone_or (count_of hs k) (count_of gs k)
      ∙ ap (λ t. none_left k && t) (sym (there gs k)) ∙ sym (among none_left k (keys_of gs)))

  -- the book's number of rows of a key is that of those that go
  same_number : (m n : ℕ) → (m + n == n) ≡ (m == 0)
  same_number m n = grind (arith, nat_tests)

  goes_is : (k : FactorKey) → goes (factors_in (hs ++ gs)) (factor_of gs k) ≡ none_left k
  goes_is k =
      ap (λ n. n == count_of gs k) (ap rows_in (lookup-factors (hs ++ gs) k) ∙ rows_in-come_to (hs ++ gs) k ∙ count-append hs gs k)
      ∙ same_number (count_of hs k) (count_of gs k)

  count_goes : (ks : List FactorKey) → count_by (goes (factors_in (hs ++ gs))) (map (factor_of gs) ks) ≡ length (filter none_left ks)
  count_goes [] = refl
  count_goes (k ∷ ks) =
      sum_by-cons (λ f. cond (goes (factors_in (hs ++ gs)) f) 1 0) (factor_of gs k) (map (factor_of gs) ks)
      ∙ ap (λ t. cond t 1 0 + count_by (goes (factors_in (hs ++ gs))) (map (factor_of gs) ks)) (goes_is k)
      ∙ ap (λ n. cond (none_left k) 1 0 + n) (count_goes ks)
      ∙ by (none_left k)
    where
      by : (t : Bool) → cond t 1 0 + length (filter none_left ks) ≡ length (cond t (k ∷ filter none_left ks) (filter none_left ks))
      by true = omega arith
      by false = omega arith

  -- of the keys that pass a test, those that are left and those that go
  keys_split : (t : FactorKey → Bool)
      → length (filter (λ f. t f.0) (factors_in (hs ++ gs))) ≡ length (filter (λ f. t f.0) (factors_in hs)) + count_by (goes (factors_in (hs ++ gs))) (filter (λ f. t f.0) (factors_in gs))
  keys_split t =
      let all : List FactorKey = keys_of (hs ++ gs) in
      let kept : length (filter is_left (filter t all)) ≡ length (filter t (keys_of hs)) = ap length (filter_swap is_left t all ∙ ap (filter t) keys_left_are) in
      let gone : length (filter none_left (filter t all)) ≡ length (filter none_left (filter t (keys_of gs))) =
      ap length (filter_swap none_left t all ∙ ap (filter t) keys_gone_are ∙ filter_swap t none_left (keys_of gs)) in
      let both : length (filter none_left (filter t all)) + length (filter is_left (filter t all)) ≡ length (filter t all) = length-filter_both none_left is_left (λ k. refl) (filter t all) in
      let whole : length (filter (λ f. t f.0) (factors_in (hs ++ gs))) ≡ length (filter t all) = ap length (filter_map_keys t (hs ++ gs) all) ∙ length_map_keys (hs ++ gs) (filter t all) in
      let left : length (filter (λ f. t f.0) (factors_in hs)) ≡ length (filter t (keys_of hs)) = ap length (filter_map_keys t hs (keys_of hs)) ∙ length_map_keys hs (filter t (keys_of hs)) in
      let going : count_by (goes (factors_in (hs ++ gs))) (filter (λ f. t f.0) (factors_in gs)) ≡ length (filter none_left (filter t (keys_of gs))) =
      ap (count_by (goes (factors_in (hs ++ gs)))) (filter_map_keys t gs (keys_of gs)) ∙ count_goes (filter t (keys_of gs)) in
      omega (arith, kept, gone, both, whole, left, going)

filter_all : {X : Type 0} (xs : List X) → filter (λ x. true) xs ≡ xs
filter_all [] = refl
filter_all (x ∷ xs) = ap (λ ys. x ∷ ys) (filter_all xs)

module _ (factors leaving left : List (FactorKey × Holding)) (w : IsWithout factors leaving left) where
  abbrev hs : List Sensitivity
  hs = sensitivities w.held

  abbrev gs : List Sensitivity
  gs = sensitivities w.gone

  book_is : factors ≡ factors_in (hs ++ gs)
  book_is = w.are ∙ ap factors_in (sensitivities-append w.held w.gone)

  split : (t : FactorKey → Bool) → length (filter (λ f. t f.0) factors) ≡ length (filter (λ f. t f.0) left) + count_by (goes factors) (filter (λ f. t f.0) leaving)
  split t =
      ap (λ fs. length (filter (λ f. t f.0) fs)) book_is ∙ keys_split hs gs t
      ∙ sym (λ i. length (filter (λ f. t f.0) (w.stay i)) + count_by (goes (book_is i)) (filter (λ f. t f.0) (w.go i)))

  -- of all keys
  pub split_all : length factors ≡ length left + count_by (goes factors) leaving
  split_all = ap length (sym (filter_all factors)) ∙ split (λ k. true) ∙ (λ i. length (filter_all left i) + count_by (goes factors) (filter_all leaving i))

  -- of those of a place
  pub split_at : (place : Place) → length (factors_at place factors) ≡ length (factors_at place left) + count_by (goes factors) (factors_at place leaving)
  split_at place = split (stands_at place)

-- ---- the loops

-- the keys of each place
by_places : (test : FactorKey × Holding → Bool) (factors : List (FactorKey × Holding)) → count_by test (flat_map (λ lent. lent.factors) (by_place factors)) ≡ count_by test factors
by_places test factors = sum_by-IsPermutation (λ f. cond (test f) 1 0) factors (flat_map (λ lent. lent.factors) (by_place factors)) (all_places factors)

-- one key more, one place more
pub next_key : {X : Type 0} (test : X → Bool) (left rest : List X) (x : X) (t : Bool) → left ≡ x ∷ rest → test x ≡ t → count_by test left ≡ cond t 1 0 + count_by test rest
next_key test left rest x t e f = ap (count_by test) e ∙ sum_by-cons (λ y. cond (test y) 1 0) x rest ∙ ap (λ b. cond b 1 0 + count_by test rest) f

pub next_place : (test : FactorKey × Holding → Bool) (left rest : List Lent) (e : Lent) → left ≡ e ∷ rest
    → count_by test (flat_map (λ lent. lent.factors) left) ≡ count_by test e.factors + count_by test (flat_map (λ lent. lent.factors) rest)
next_place test left rest e is = ap (λ es. count_by test (flat_map (λ lent. lent.factors) es)) is ∙ sum_by-append (λ y. cond (test y) 1 0) e.factors (flat_map (λ lent. lent.factors) rest)

-- all places, none
pub first_places : (test : FactorKey × Holding → Bool) (factors : List (FactorKey × Holding)) (es : List Lent) → es ≡ by_place factors
    → count_by test (flat_map (λ lent. lent.factors) es) ≡ count_by test factors
first_places test factors es e = ap (λ xs. count_by test (flat_map (λ lent. lent.factors) xs)) e ∙ by_places test factors

pub no_places : (test : FactorKey × Holding → Bool) (es : List Lent) → es ≡ [] → count_by test (flat_map (λ lent. lent.factors) es) ≡ 0
no_places test es e = ap (λ xs. count_by test (flat_map (λ lent. lent.factors) xs)) e
