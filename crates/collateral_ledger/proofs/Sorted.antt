-- Lists in the ascending order of a number: they are the same things in another order; the greatest number goes last; and a
-- filter, or a change that keeps the numbers, keeps the order.
use Rattle.std.proofs.Common.{◌≡◌, ℕ, ◌<◌, ◌≤◌, List, [], ◌∷◌, ◌++◌, map, filter, Bool, true, false, cond, if◌then◌else◌, None, Some, Ordering, Less, Equal, Greater, ltb, refl, sym, ap, ◌∙◌, arith}
use Rattle.std.specs.List.{AllByRecursion}
use Rattle.std.specs.List.Sorted.{IsPermutation}
use Rattle.std.specs.Ordering.{is_eq, match_ordering}
use Rattle.std.specs.BTreeMap.{insert_entry, is_at}
use Rattle.std.specs.Map.{lookup}
use Rattle.std.proofs.lemmas.Bool.{ltb-true, ltb-false, lt-ltb, le-ltb}
use Rattle.std.proofs.lemmas.List.Sorted.{IsPermutation-refl, IsPermutation-sym, IsPermutation-trans, IsPermutation-cons, IsPermutation-middle}
use Rattle.collateral_ledger.specs.Sorting.{insert_by, sorted_by}
use Rattle.collateral_ledger.proofs.Viewed.{each_weaker, each_filter}

module _ {X : Type 0} (number : X → ℕ) where
  -- ---- the same things

  insert_moves : (x : X) (xs : List X) → IsPermutation (x ∷ xs) (insert_by number x xs)
  insert_moves x [] = IsPermutation-refl (x ∷ [])
  insert_moves x (y ∷ ys) = by (ltb (number x) (number y)) (insert_moves x ys)
    where
      by : (b : Bool) → IsPermutation (x ∷ ys) (insert_by number x ys) → IsPermutation (x ∷ y ∷ ys) (if b then x ∷ y ∷ ys else y ∷ insert_by number x ys)
      by true rest = IsPermutation-refl (x ∷ y ∷ ys)
      by false rest =
          IsPermutation-trans (x ∷ y ∷ ys) (y ∷ x ∷ ys) (y ∷ insert_by number x ys)
          (IsPermutation-sym (y ∷ x ∷ ys) (x ∷ y ∷ ys) (IsPermutation-middle (y ∷ []) x ys)) (IsPermutation-cons y (x ∷ ys) (insert_by number x ys) rest)

  pub sorted_moves : (xs : List X) → IsPermutation xs (sorted_by number xs)
  sorted_moves [] = IsPermutation-refl []
  sorted_moves (x ∷ xs) =
      IsPermutation-trans (x ∷ xs) (x ∷ sorted_by number xs) (insert_by number x (sorted_by number xs))
      (IsPermutation-cons x xs (sorted_by number xs) (sorted_moves xs)) (insert_moves x (sorted_by number xs))

  each_insert : (P : X → Type 0) (x : X) (xs : List X) → P x → AllByRecursion P xs → AllByRecursion P (insert_by number x xs)
  each_insert P x [] is h = (is, tt)
  each_insert P x (y ∷ ys) is h = by (ltb (number x) (number y)) (each_insert P x ys is h.1)
    where
      by : (b : Bool) → AllByRecursion P (insert_by number x ys) → AllByRecursion P (if b then x ∷ y ∷ ys else y ∷ insert_by number x ys)
      by true rest = (is, h)
      by false rest = (h.0, rest)

  pub each_sorted : (P : X → Type 0) (xs : List X) → AllByRecursion P xs → AllByRecursion P (sorted_by number xs)
  each_sorted P [] h = tt
  each_sorted P (x ∷ xs) h = each_insert P x (sorted_by number xs) h.0 (each_sorted P xs h.1)

  -- ---- the greatest number

  insert_last : (x : X) (xs : List X) → AllByRecursion (λ y. number y < number x) xs → insert_by number x xs ≡ xs ++ x ∷ []
  insert_last x [] h = refl
  insert_last x (y ∷ ys) h =
      ap (λ b. if b then x ∷ y ∷ ys else y ∷ insert_by number x ys) (le-ltb (number x) (number y) (omega (arith, h.0)))
      ∙ ap (λ zs. y ∷ zs) (insert_last x ys h.1)

  insert_before : (x last : X) (xs : List X) → number x < number last → insert_by number x (xs ++ last ∷ []) ≡ insert_by number x xs ++ last ∷ []
  insert_before x last [] h = ap (λ b. if b then x ∷ last ∷ [] else last ∷ x ∷ []) (lt-ltb (number x) (number last) h)
  insert_before x last (y ∷ ys) h = by (ltb (number x) (number y)) (insert_before x last ys h)
    where
      by : (b : Bool) → insert_by number x (ys ++ last ∷ []) ≡ insert_by number x ys ++ last ∷ []
          → (if b then x ∷ y ∷ ys ++ last ∷ [] else y ∷ insert_by number x (ys ++ last ∷ [])) ≡ (if b then x ∷ y ∷ ys else y ∷ insert_by number x ys) ++ last ∷ []
      by true rest = refl
      by false rest = ap (λ zs. y ∷ zs) rest

  -- ---- a filter

  -- no number is above one behind it
  abbrev Ascends : List X → Type 0
  Ascends [] = Unit {0}
  Ascends (x ∷ xs) = AllByRecursion (λ y. number x ≤ number y) xs × Ascends xs

  insert_ascends : (x : X) (xs : List X) → Ascends xs → Ascends (insert_by number x xs)
  insert_ascends x [] h = (tt, tt)
  insert_ascends x (y ∷ ys) h = by (ltb (number x) (number y)) refl (insert_ascends x ys h.1)
    where
      by : (b : Bool) → ltb (number x) (number y) ≡ b → Ascends (insert_by number x ys) → Ascends (if b then x ∷ y ∷ ys else y ∷ insert_by number x ys)
      by true is rest =
          let below : number x < number y = ltb-true (number x) (number y) is in
          ((omega (arith, below), each_weaker (λ z. number y ≤ number z) (λ z. number x ≤ number z) (λ z le. omega (arith, below, le)) ys h.0), h)
      by false is rest = (each_insert (λ z. number y ≤ number z) x ys (ltb-false (number x) (number y) is) h.0, rest)

  sorted_ascends : (xs : List X) → Ascends (sorted_by number xs)
  sorted_ascends [] = tt
  sorted_ascends (x ∷ xs) = insert_ascends x (sorted_by number xs) (sorted_ascends xs)

  insert_first : (x : X) (xs : List X) → AllByRecursion (λ y. number x < number y) xs → insert_by number x xs ≡ x ∷ xs
  insert_first x [] h = refl
  insert_first x (y ∷ ys) h = ap (λ b. if b then x ∷ y ∷ ys else y ∷ insert_by number x ys) (lt-ltb (number x) (number y) h.0)

  filter-insert : (keep : X → Bool) (x : X) (xs : List X) → Ascends xs → filter keep (insert_by number x xs) ≡ cond (keep x) (insert_by number x (filter keep xs)) (filter keep xs)
  filter-insert keep x [] h = refl
  filter-insert keep x (y ∷ ys) h = by (ltb (number x) (number y)) refl (filter-insert keep x ys h.1)
    where
      kept : List X
      kept = filter keep ys

      behind : (bx by : Bool) → ltb (number x) (number y) ≡ false → cond by (y ∷ cond bx (insert_by number x kept) kept) (cond bx (insert_by number x kept) kept) ≡ cond bx (insert_by number x (cond by (y ∷ kept) kept)) (cond by (y ∷ kept) kept)
      behind true true is = sym (ap (λ b. if b then x ∷ y ∷ kept else y ∷ insert_by number x kept) is)
      behind true false is = refl
      behind false true is = refl
      behind false false is = refl

      by : (b : Bool) → ltb (number x) (number y) ≡ b → filter keep (insert_by number x ys) ≡ cond (keep x) (insert_by number x kept) kept
          → filter keep (if b then x ∷ y ∷ ys else y ∷ insert_by number x ys) ≡ cond (keep x) (insert_by number x (filter keep (y ∷ ys))) (filter keep (y ∷ ys))
      by true is rest =
          let below : number x < number y = ltb-true (number x) (number y) is in
          let above : AllByRecursion (λ z. number x < number z) (y ∷ ys) = (below, each_weaker (λ z. number y ≤ number z) (λ z. number x < number z) (λ z le. omega (arith, below, le)) ys h.0) in
          ap (λ zs. cond (keep x) zs (filter keep (y ∷ ys))) (sym (insert_first x (filter keep (y ∷ ys)) (each_filter keep (λ z. number x < number z) (y ∷ ys) above)))
      by false is rest = ap (λ zs. cond (keep y) (y ∷ zs) zs) rest ∙ behind (keep x) (keep y) is

  pub sorted-filter : (keep : X → Bool) (xs : List X) → sorted_by number (filter keep xs) ≡ filter keep (sorted_by number xs)
  sorted-filter keep [] = refl
  sorted-filter keep (x ∷ xs) =
      by (keep x)
      ∙ ap (λ zs. cond (keep x) (insert_by number x zs) zs) (sorted-filter keep xs)
      ∙ sym (filter-insert keep x (sorted_by number xs) (sorted_ascends xs))
    where
      by : (b : Bool) → sorted_by number (cond b (x ∷ filter keep xs) (filter keep xs)) ≡ cond b (insert_by number x (sorted_by number (filter keep xs))) (sorted_by number (filter keep xs))
      by true = refl
      by false = refl

  -- ---- a change that keeps the numbers

  module _ (change : X → X) (keeps : (x : X) → number (change x) ≡ number x) where
    insert-map : (x : X) (xs : List X) → insert_by number (change x) (map change xs) ≡ map change (insert_by number x xs)
    insert-map x [] = refl
    insert-map x (y ∷ ys) =
        ap (λ n. if ltb n (number (change y)) then change x ∷ change y ∷ map change ys else change y ∷ insert_by number (change x) (map change ys)) (keeps x)
        ∙ ap (λ n. if ltb (number x) n then change x ∷ change y ∷ map change ys else change y ∷ insert_by number (change x) (map change ys)) (keeps y)
        ∙ by (ltb (number x) (number y)) (insert-map x ys)
      where
        by : (b : Bool) → insert_by number (change x) (map change ys) ≡ map change (insert_by number x ys)
            → (if b then change x ∷ change y ∷ map change ys else change y ∷ insert_by number (change x) (map change ys)) ≡ map change (if b then x ∷ y ∷ ys else y ∷ insert_by number x ys)
        by true rest = refl
        by false rest = ap (λ zs. change y ∷ zs) rest

    pub sorted-map : (xs : List X) → sorted_by number (map change xs) ≡ map change (sorted_by number xs)
    sorted-map [] = refl
    sorted-map (x ∷ xs) = ap (insert_by number (change x)) (sorted-map xs) ∙ insert-map x (sorted_by number xs)

-- a new entry of a map, of a greater number than all others
pub sorted-insert_entry : {K V : Type 0} (number : K × V → ℕ) (cmp : K → K → Ordering) (k : K) (v : V) (es : List (K × V)) → lookup (is_at (cmp k)) es ≡ None → AllByRecursion (λ e. number e < number (k, v)) es
    → sorted_by number (insert_entry cmp es k v) ≡ sorted_by number es ++ (k, v) ∷ []
sorted-insert_entry number cmp k v [] new h = refl
sorted-insert_entry {K} {V} number cmp k v (e ∷ es) new h = by (cmp k e.0) new (λ later. sorted-insert_entry number cmp k v es later h.1)
  where
    by : (o : Ordering) → cond (is_eq o) (Some e.1) (lookup (is_at (cmp k)) es) ≡ None
        → (lookup (is_at (cmp k)) es ≡ None → sorted_by number (insert_entry cmp es k v) ≡ sorted_by number es ++ (k, v) ∷ [])
        → sorted_by number (match_ordering o ((k, v) ∷ e ∷ es) ((e.0, v) ∷ es) (e ∷ insert_entry cmp es k v)) ≡ sorted_by number (e ∷ es) ++ (k, v) ∷ []
    by Less new rest = insert_last number (k, v) (sorted_by number (e ∷ es)) (each_sorted number (λ f. number f < number (k, v)) (e ∷ es) h)
    by Equal new rest = absurd (cc)
    by Greater new rest = ap (insert_by number e) (rest new) ∙ insert_before number e (k, v) (sorted_by number es) h.0
