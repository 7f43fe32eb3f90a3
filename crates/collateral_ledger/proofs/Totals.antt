-- What a map's values come to together: after an entry more, one less and one that changes, in another order, and at most.
use Rattle.std.proofs.Common.{◌≡◌, ◌*◌, ◌≤◌, ℕ, ℤ, ◌+ℤ◌, unsigned_abs, List, [], ◌∷◌, map, length, Bool, true, false, cond, None, Some, if◌then◌else◌, Ordering, Less, Equal, Greater, ltb, refl, ap, ◌∙◌, arith, mul-suc}
use Rattle.std.proofs.lemmas.Int.{ints}
use Rattle.std.specs.List.{AllByRecursion}
use Rattle.std.specs.Ordering.{is_eq, match_ordering}
use Rattle.std.specs.BTreeMap.{insert_entry, is_at}
use Rattle.std.specs.Map.{values_of, lookup, remove_entry, set_value}
use Rattle.collateral_ledger.specs.Booked.{total}
use Rattle.collateral_ledger.specs.Sorting.{insert_by, sorted_by}

module _ {K X : Type 0} (f : X → ℤ) where
  abbrev pub total_of : List (K × X) → ℤ
  total_of es = total (map f (values_of es))

  pub total-inserted : (cmp : K → K → Ordering) (k : K) (v : X) (es : List (K × X)) → lookup (is_at (cmp k)) es ≡ None → total_of (insert_entry cmp es k v) ≡ total_of es +ℤ f v
  total-inserted cmp k v [] new = omega (arith, ints)
  total-inserted cmp k v (e ∷ es) new = by (cmp k e.0) new (total-inserted cmp k v es)
    where
      by : (o : Ordering) → cond (is_eq o) (Some e.1) (lookup (is_at (cmp k)) es) ≡ None → (lookup (is_at (cmp k)) es ≡ None → total_of (insert_entry cmp es k v) ≡ total_of es +ℤ f v)
          → total_of (match_ordering o ((k, v) ∷ e ∷ es) ((e.0, v) ∷ es) (e ∷ insert_entry cmp es k v)) ≡ total_of (e ∷ es) +ℤ f v
      by Less new rest = omega (arith, ints)
      by Equal new rest = absurd (cc)
      by Greater new rest = omega (arith, ints, rest new)

  pub total-removed : (test : K → Bool) (v : X) (es : List (K × X)) → lookup test es ≡ Some v → total_of (remove_entry test es) +ℤ f v ≡ total_of es
  total-removed test v [] found = absurd (cc)
  total-removed test v (e ∷ es) found = by (test e.0) found (total-removed test v es)
    where
      by : (b : Bool) → cond b (Some e.1) (lookup test es) ≡ Some v → (lookup test es ≡ Some v → total_of (remove_entry test es) +ℤ f v ≡ total_of es)
          → total_of (cond b es (e ∷ remove_entry test es)) +ℤ f v ≡ total_of (e ∷ es)
      by true found rest =
          let one : e.1 ≡ v = cc in
          omega (arith, ints, ap f one)
      by false found rest = omega (arith, ints, rest found)

  pub total-set_value : (test : K → Bool) (v w : X) (es : List (K × X)) → lookup test es ≡ Some v → total_of (set_value test es w) +ℤ f v ≡ total_of es +ℤ f w
  total-set_value test v w [] found = absurd (cc)
  total-set_value test v w (e ∷ es) found = by (test e.0) found (total-set_value test v w es)
    where
      by : (b : Bool) → cond b (Some e.1) (lookup test es) ≡ Some v → (lookup test es ≡ Some v → total_of (set_value test es w) +ℤ f v ≡ total_of es +ℤ f w)
          → total_of (cond b ((e.0, w) ∷ es) (e ∷ set_value test es w)) +ℤ f v ≡ total_of (e ∷ es) +ℤ f w
      by true found rest =
          let one : e.1 ≡ v = cc in
          omega (arith, ints, ap f one)
      by false found rest = omega (arith, ints, rest found)

  -- where each value comes to so much at most
  pub total_size : (most : ℕ) (es : List (K × X)) → AllByRecursion (λ e. unsigned_abs (f e.1) ≤ most) es → unsigned_abs (total_of es) ≤ most * length es
  total_size most [] h = omega arith
  total_size most (e ∷ es) h = omega (arith, ints, h.0, total_size most es h.1, mul-suc most (length es))

-- what the things that are seen of the entries come to
pub total-viewed : {K X L : Type 0} (view : K × X → L) (f : L → ℤ) (g : X → ℤ) → ((e : K × X) → f (view e) ≡ g e.1) → (es : List (K × X)) → total (map f (map view es)) ≡ total_of g es
total-viewed view f g same [] = refl
total-viewed view f g same (e ∷ es) = omega (arith, ints, same e, total-viewed view f g same es)

-- in the order of a number
module _ {X L : Type 0} (number : X → ℕ) (view : X → L) (f : L → ℤ) where
  total-insert : (x : X) (xs : List X) → total (map f (map view (insert_by number x xs))) ≡ f (view x) +ℤ total (map f (map view xs))
  total-insert x [] = refl
  total-insert x (y ∷ ys) = by (ltb (number x) (number y)) (total-insert x ys)
    where
      by : (b : Bool) → total (map f (map view (insert_by number x ys))) ≡ f (view x) +ℤ total (map f (map view ys))
          → total (map f (map view (if b then x ∷ y ∷ ys else y ∷ insert_by number x ys))) ≡ f (view x) +ℤ (f (view y) +ℤ total (map f (map view ys)))
      by true rest = refl
      by false rest = omega (arith, ints, rest)

  pub total-sorted : (xs : List X) → total (map f (map view (sorted_by number xs))) ≡ total (map f (map view xs))
  total-sorted [] = refl
  total-sorted (x ∷ xs) = total-insert x (sorted_by number xs) ∙ ap (λ z. f (view x) +ℤ z) (total-sorted xs)
