-- Items in groups by what they stand at: no item is lost, and none comes twice.
use Rattle.std.proofs.Common.{◌≡◌, List, [], ◌∷◌, ◌++◌, map, Bool, true, false, ◌||◌, not, cond, refl, sym, ap, ◌∙◌, subst}
use Rattle.std.specs.declared.cmp.Ordering.{Ordering}
use Rattle.std.specs.declared.cmp.Ordering.TheVariants.{Less, Equal, Greater}
use Rattle.std.specs.Ordering.{is_eq}
use Rattle.std.specs.Cmp.{IsTotalOrder}
use Rattle.std.specs.List.{filter, flat_map, list_any, AllByRecursion}
use Rattle.std.specs.List.Sorted.{IsStrictlySortedBy, IsPermutation}
use Rattle.std.proofs.lemmas.Bool.{false≢true}
use Rattle.std.proofs.lemmas.Cmp.{alike_right, tied_itself}
use Rattle.std.proofs.lemmas.List.Sorted.{IsPermutation-refl, IsPermutation-trans, IsPermutation-append_right, IsPermutation-filter_both}
use Rattle.std.proofs.lemmas.Map.Keys.{sorted_head, sorted_tail}
use Rattle.factor_book.proofs.Sorting.{each_weaker}

pub or_right : (s t : Bool) → t ≡ true → (s || t) ≡ true
or_right true t e = refl
or_right false t e = e

-- whether any is kept
abbrev pub any_is : {X : Type 0} → List X → Bool
any_is [] = false
any_is (x ∷ xs) = true

module _ {A P : Type 0} (cmp : P → P → Ordering) (o : IsTotalOrder cmp) (at : A → P) where
  abbrev in_group : List A → P → P × List A
  in_group xs p = (p, filter (λ x. is_eq (cmp p (at x))) xs)

  -- an item of a later group is in none before it
  apart : (p q : P) (x : A) → cmp p q ≡ Less → is_eq (cmp q (at x)) ≡ true → is_eq (cmp p (at x)) ≡ false
  apart p q x less e = by (cmp q (at x)) refl e
    where
      by : (r : Ordering) → cmp q (at x) ≡ r → is_eq r ≡ true → is_eq (cmp p (at x)) ≡ false
      by Less h e = absurd (false≢true e)
      by Equal h e = ap is_eq (sym (alike_right o q (at x) p h) ∙ less)
      by Greater h e = absurd (false≢true e)

  filter-others : (p q : P) → cmp p q ≡ Less → (xs : List A) → filter (λ x. is_eq (cmp q (at x))) (filter (λ x. not (is_eq (cmp p (at x)))) xs) ≡ filter (λ x. is_eq (cmp q (at x))) xs
  filter-others p q less [] = refl
  filter-others p q less (x ∷ xs) =
      by (filter (λ y. not (is_eq (cmp p (at y)))) xs) (filter (λ y. is_eq (cmp q (at y))) xs) (is_eq (cmp p (at x))) (is_eq (cmp q (at x))) refl refl (filter-others p q less xs)
    where
      by : (others rest : List A) (s t : Bool) → is_eq (cmp p (at x)) ≡ s → is_eq (cmp q (at x)) ≡ t → filter (λ y. is_eq (cmp q (at y))) others ≡ rest
          → filter (λ y. is_eq (cmp q (at y))) (cond (not s) (x ∷ others) others) ≡ cond t (x ∷ rest) rest
      by others rest true true e f i = absurd (false≢true (sym (apart p q x less f) ∙ e))
      by others rest true false e f i = i
      by others rest false true e f i = ap (λ t. cond t (x ∷ filter (λ y. is_eq (cmp q (at y))) others) (filter (λ y. is_eq (cmp q (at y))) others)) f ∙ ap (λ ys. x ∷ ys) i
      by others rest false false e f i = ap (λ t. cond t (x ∷ filter (λ y. is_eq (cmp q (at y))) others) (filter (λ y. is_eq (cmp q (at y))) others)) f ∙ i

  groups-others : (p : P) (xs : List A) (ps : List P) → AllByRecursion (λ q. cmp p q ≡ Less) ps → flat_map (λ e. e.1) (map (in_group (filter (λ x. not (is_eq (cmp p (at x)))) xs)) ps) ≡ flat_map (λ e. e.1) (map (in_group xs) ps)
  groups-others p xs [] h = refl
  groups-others p xs (q ∷ ps) h = λ i. filter-others p q h.0 xs i ++ groups-others p xs ps h.1 i

  -- those that are not of the first group are of a later one
  later : (p : P) (ps : List P) (xs : List A) → AllByRecursion (λ x. list_any (λ q. is_eq (cmp q (at x))) (p ∷ ps) ≡ true) xs
      → AllByRecursion (λ x. list_any (λ q. is_eq (cmp q (at x))) ps ≡ true) (filter (λ x. not (is_eq (cmp p (at x)))) xs)
  later p ps [] h = tt
  later p ps (x ∷ xs) h = by (filter (λ y. not (is_eq (cmp p (at y)))) xs) (is_eq (cmp p (at x))) h.0 (later p ps xs h.1)
    where
      by : (others : List A) (t : Bool) → (t || list_any (λ q. is_eq (cmp q (at x))) ps) ≡ true → AllByRecursion (λ y. list_any (λ q. is_eq (cmp q (at y))) ps ≡ true) others
          → AllByRecursion (λ y. list_any (λ q. is_eq (cmp q (at y))) ps ≡ true) (cond (not t) (x ∷ others) others)
      by others true e i = i
      by others false e i = (e, i)

  grouped : (ps : List P) (xs : List A) → IsStrictlySortedBy cmp ps → AllByRecursion (λ x. list_any (λ q. is_eq (cmp q (at x))) ps ≡ true) xs → IsPermutation xs (flat_map (λ e. e.1) (map (in_group xs) ps))
  grouped [] [] s h = IsPermutation-refl []
  grouped [] (x ∷ xs) s h = absurd (false≢true h.0)
  grouped (p ∷ ps) xs s h =
      let others : List A = filter (λ x. not (is_eq (cmp p (at x)))) xs in
      let rest : IsPermutation others (flat_map (λ e. e.1) (map (in_group others) ps)) = grouped ps others (sorted_tail cmp p ps s) (later p ps xs h) in
      IsPermutation-trans xs (filter (λ x. is_eq (cmp p (at x))) xs ++ others) (flat_map (λ e. e.1) (map (in_group xs) (p ∷ ps)))
      (IsPermutation-filter_both (λ x. is_eq (cmp p (at x))) (λ x. not (is_eq (cmp p (at x)))) (λ x. refl) xs)
      (subst (λ (ys : List A). IsPermutation (filter (λ x. is_eq (cmp p (at x))) xs ++ others) (filter (λ x. is_eq (cmp p (at x))) xs ++ ys)) (groups-others p xs ps (sorted_head cmp p ps s))
      (IsPermutation-append_right (filter (λ x. is_eq (cmp p (at x))) xs) others (flat_map (λ e. e.1) (map (in_group others) ps)) rest))

  -- an item stands at one of the places at which the items stand
  stands : (xs : List A) → AllByRecursion (λ x. list_any (λ q. is_eq (cmp q (at x))) (map at xs) ≡ true) xs
  stands [] = tt
  stands (x ∷ xs) = (
    ap (λ r. is_eq r || list_any (λ q. is_eq (cmp q (at x))) (map at xs)) (tied_itself o (at x)),
    each_weaker (λ y. list_any (λ q. is_eq (cmp q (at y))) (map at xs) ≡ true) (λ y. list_any (λ q. is_eq (cmp q (at y))) (map at (x ∷ xs)) ≡ true)
        (λ y h. or_right (is_eq (cmp (at x) (at y))) (list_any (λ q. is_eq (cmp q (at y))) (map at xs)) h) xs (stands xs),
  )

  pub grouped_all : (ps : List P) (xs : List A) → IsStrictlySortedBy cmp ps → ((x : A) → list_any (λ q. is_eq (cmp q (at x))) ps ≡ list_any (λ q. is_eq (cmp q (at x))) (map at xs))
      → IsPermutation xs (flat_map (λ e. e.1) (map (in_group xs) ps))
  grouped_all ps xs s same =
      grouped ps xs s (each_weaker (λ x. list_any (λ q. is_eq (cmp q (at x))) (map at xs) ≡ true) (λ x. list_any (λ q. is_eq (cmp q (at x))) ps ≡ true) (λ x h. same x ∙ h) xs (stands xs))

-- whether any stands there is whether any is kept
pub any-filter : {A P : Type 0} (test : P → Bool) (at : A → P) (xs : List A) → list_any test (map at xs) ≡ any_is (filter (λ x. test (at x)) xs)
any-filter test at [] = refl
any-filter test at (x ∷ xs) = by (test (at x)) (any-filter test at xs)
  where
    by : (t : Bool) → list_any test (map at xs) ≡ any_is (filter (λ y. test (at y)) xs) → (t || list_any test (map at xs)) ≡ any_is (cond t (x ∷ filter (λ y. test (at y)) xs) (filter (λ y. test (at y)) xs))
    by true i = refl
    by false i = i
