-- Sums over the places of a book: what of them is not kept.
use Rattle.std.proofs.Common.{◌≡◌, ◌≢◌, ℕ, ◌+◌, ◌*◌, ◌^◌, ◌<◌, ◌≤◌, List, [], ◌∷◌, map, length, Bool, true, false, ◌||◌, cond, Option, Some, None, refl, sym, ap, ◌∙◌, subst, arith, zero-mul}
use Rattle.std.specs.Prelude.{sum_by, is_some}
use Rattle.std.specs.List.{filter, list_any}
use Rattle.std.specs.BTreeMap.{is_at}
use Rattle.std.proofs.Math.Nat.{le_refl, mul-le-mul_right}
use Rattle.std.proofs.lemmas.List.{length-map}
use Rattle.std.proofs.lemmas.List.Sums.{sum_by-cons}
use Rattle.factor_book.specs.SimmKinds.declared.key.FactorKey.{FactorKey}
use Rattle.factor_book.specs.declared.holding.Holding.{Holding}
use Rattle.factor_book.specs.declared.place.Place.{Place}
use Rattle.factor_book.specs.declared.place.Stand.{Stand}
use Rattle.factor_book.specs.declared.place.Stand.TheVariants as stand
use Rattle.factor_book.specs.declared.value.PlaceValue.{PlaceValue}
use Rattle.factor_book.specs.Place.{place_of, place_cmp, same_place}
use Rattle.factor_book.specs.Places.{Lent, stands_at, factors_at, lent_at, places_of, by_place}
use Rattle.factor_book.specs.Value.{measures_of}
use Rattle.factor_book.proofs.Grouping.{any_is, any-filter}
use Rattle.factor_book.proofs.Sorting.{any_different, length-different}
use Rattle.factor_book.proofs.Standing.{one_place, own_place, tied_place, at_place}
use Rattle.kept_buckets.specs.Kept.{Kept, value_at, KeepsValue}
use Rattle.kept_buckets.specs.Dirty.{Count, dirty_at, dirty_in, steps_at, steps_left}

abbrev Factors : Type 0
Factors = List (FactorKey × Holding)

-- ---- sums over lists

sum_small : {A : Type 0} (f : A → ℕ) (m : ℕ) → ((x : A) → f x ≤ m) → (xs : List A) → sum_by f xs ≤ length xs * m
sum_small f m small [] = omega arith
sum_small f m small (x ∷ xs) = omega (arith, sum_by-cons f x xs, small x, sum_small f m small xs)

sum_less : {A : Type 0} (f g : A → ℕ) → ((x : A) → g x ≤ f x) → (xs : List A) → sum_by g xs ≤ sum_by f xs
sum_less f g less [] = le_refl 0
sum_less f g less (x ∷ xs) = omega (arith, sum_by-cons f x xs, sum_by-cons g x xs, less x, sum_less f g less xs)

sum_by-map : {A B : Type 0} (f : B → ℕ) (g : A → B) (xs : List A) → sum_by f (map g xs) ≡ sum_by (λ x. f (g x)) xs
sum_by-map f g [] = refl
sum_by-map f g (x ∷ xs) = sum_by-cons f (g x) (map g xs) ∙ ap (λ n. f (g x) + n) (sum_by-map f g xs) ∙ sym (sum_by-cons (λ y. f (g y)) x xs)

-- and less by w where one of them is
sum_less_by : {A : Type 0} (f g : A → ℕ) (test : A → Bool) (w : ℕ) → ((x : A) → g x ≤ f x) → ((x : A) → test x ≡ true → g x + w ≤ f x)
    → (xs : List A) → list_any test xs ≡ true → sum_by g xs + w ≤ sum_by f xs
sum_less_by f g test w less here [] any = absurd (cc)
sum_less_by {A = A} f g test w less here (x ∷ xs) any = by (test x) refl (sum_less_by f g test w less here xs)
  where
    by : (t : Bool) → test x ≡ t → (list_any test xs ≡ true → sum_by g xs + w ≤ sum_by f xs) → sum_by g (x ∷ xs) + w ≤ sum_by f (x ∷ xs)
    by true e i = omega (arith, sum_by-cons f x xs, sum_by-cons g x xs, here x e, sum_less f g less xs)
    by false e i = omega (arith, sum_by-cons f x xs, sum_by-cons g x xs, less x, i (ap (λ t. t || list_any test xs) (sym e) ∙ any))

-- ---- how many values are not kept

few_measures : (s : Stand) → measures_of s ≤ 2
few_measures (stand.Delta slot) = omega arith
few_measures stand.BaseCorrelation = omega arith
few_measures (stand.Volatility slot) = omega arith

few_dirty : (kept : Kept) (lent : Lent) → dirty_at kept lent.place ≤ 2
few_dirty kept lent = by (is_some (value_at kept lent.place))
  where
    by : (t : Bool) → cond t 0 (measures_of (lent.place).stand) ≤ 2
    by true = omega arith
    by false = few_measures (lent.place).stand

few_places : (fs : Factors) → length (by_place fs) ≤ length fs
few_places fs =
    omega (arith, length-map (places_of fs) (lent_at fs), length-different place_cmp (map (λ f. place_of f.0) fs), length-map fs (λ f. place_of f.0))

pub dirty_below : (kept : Kept) (fs : Factors) → length fs < 2 ^ 31 → dirty_in kept fs < 2 ^ 32
dirty_below kept fs few = omega (arith, sum_small (λ (lent : Lent). dirty_at kept lent.place) 2 (few_dirty kept) (by_place fs), few_places fs)

-- those of the places that a loop has gone over, and of those that are left
module _ {A : Type 0} (f : A → ℕ) (total n m : ℕ) (left rest : List A) (x : A) (at : left ≡ x ∷ rest) (so_far : n + sum_by f left ≡ total) (its : m ≡ f x) where
  whole_is : n + (f x + sum_by f rest) ≡ total
  whole_is = ap (λ k. n + k) (sym (sum_by-cons f x rest) ∙ ap (sum_by f) (sym at)) ∙ so_far

  pub count_next : (n + m) + sum_by f rest ≡ total
  count_next = omega (arith, whole_is, its)

  pub count_fits : (limit : ℕ) → total < limit → n + m < limit
  count_fits limit few = omega (arith, whole_is, its, few)

pub count_end : {A : Type 0} (f : A → ℕ) (total n : ℕ) (left : List A) → left ≡ [] → n + sum_by f left ≡ total → n ≡ total
count_end f total n left at so_far =
    let none : sum_by f left ≡ 0 = ap (sum_by f) at in
    omega (arith, none, so_far)

-- ---- a place that has a factor is among the places

any_some : {A : Type 0} (xs : List A) → xs ≢ [] → any_is xs ≡ true
any_some [] some = absurd (some refl)
any_some (x ∷ xs) some = refl

same_filter : {A : Type 0} (p q : A → Bool) → ((x : A) → p x ≡ q x) → (xs : List A) → filter p xs ≡ filter q xs
same_filter p q same xs = ap (λ test. filter test xs) (λ i x. same x i)

place_there : (place : Place) (fs : Factors) → factors_at place fs ≢ [] → list_any (is_at (place_cmp place)) (places_of fs) ≡ true
place_there place fs some =
    any_different place_cmp (is_at (place_cmp place)) (λ p r e. tied_place place p r e) (map (λ f. place_of f.0) fs)
    ∙ any-filter (is_at (place_cmp place)) (λ f. place_of f.0) fs
    ∙ ap any_is (same_filter (λ f. is_at (place_cmp place) (place_of f.0)) (λ f. stands_at place f.0) (λ f. sym (at_place place f.0)) fs)
    ∙ any_some (factors_at place fs) some

-- ---- a value that is kept saves its steps

module _ (old new : Kept) (place : Place) (value : PlaceValue) (keeps : KeepsValue old new place value) where
  kept_there : (o : Option PlaceValue) (t : Bool) (n : ℕ) → cond (is_some (cond t (Some value) o)) 0 n ≤ cond (is_some o) 0 n
  kept_there (Some v) true n = le_refl 0
  kept_there (Some v) false n = le_refl 0
  kept_there None true n = omega arith
  kept_there None false n = le_refl n

  pub no_dirtier : (other : Place) → dirty_at new other ≤ dirty_at old other
  no_dirtier other =
      subst (λ (o : Option PlaceValue). cond (is_some o) 0 (measures_of other.stand) ≤ dirty_at old other) (sym (keeps.values other))
      (kept_there (value_at old other) (same_place place other) (measures_of other.stand))

  clean_there : same_place place place ≡ true → dirty_at new place ≡ 0
  clean_there own = ap (λ o. cond (is_some o) 0 (measures_of place.stand)) (keeps.values place ∙ ap (λ t. cond t (Some value) (value_at old place)) own)

  module _ (count : Count) (fs : Factors) where
    abbrev pairs_at : Place → ℕ
    pairs_at p = count (lent_at fs p) * count (lent_at fs p)

    less_at : (p : Place) → steps_at count new (lent_at fs p) ≤ steps_at count old (lent_at fs p)
    less_at p = mul-le-mul_right (pairs_at p) (no_dirtier p)

    abbrev saved : ℕ
    saved = measures_of place.stand * pairs_at place

    all_saved : value_at old place ≡ None → steps_at count new (lent_at fs place) + saved ≤ steps_at count old (lent_at fs place)
    all_saved none =
        let k = pairs_at place in
        let nothing : dirty_at new place * k ≡ 0 * k = ap (λ n. n * k) (clean_there (own_place place)) in
        let all : dirty_at old place * k ≡ measures_of place.stand * k = ap (λ o. cond (is_some o) 0 (measures_of place.stand) * k) none in
        omega (arith, nothing, all, zero-mul k)

    pub steps_saved : value_at old place ≡ None → factors_at place fs ≢ [] → steps_left count new fs + saved ≤ steps_left count old fs
    steps_saved none some =
        let f = λ (p : Place). steps_at count old (lent_at fs p) in
        let g = λ (p : Place). steps_at count new (lent_at fs p) in
        let less : sum_by g (places_of fs) + saved ≤ sum_by f (places_of fs) =
        sum_less_by f g (is_at (place_cmp place)) saved less_at
        (λ p e. subst (λ q. steps_at count new (lent_at fs q) + saved ≤ steps_at count old (lent_at fs q)) (one_place place p e) (all_saved none))
        (places_of fs) (place_there place fs some) in
        omega (
          arith,
          less,
          sum_by-map (steps_at count old) (lent_at fs) (places_of fs),
          sum_by-map (steps_at count new) (lent_at fs) (places_of fs),
        )
