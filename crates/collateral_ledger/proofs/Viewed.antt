-- A map's entries seen as a list of things: a look-up, an entry more or less, and what each entry keeps.
use Rattle.std.proofs.Common.{◌≡◌, ◌+◌, List, [], ◌∷◌, ◌++◌, map, filter, length, Bool, true, false, cond, not, ◌||◌, Option, None, Some, is_some, Ordering, Less, Equal, Greater, ◌≤◌, refl, sym, ap, ◌∙◌, arith}
use Rattle.std.specs.List.{AllByRecursion, IsDistinct, list_any}
use Rattle.std.specs.Cmp.{IsEquivalence}
use Rattle.std.specs.Ordering.{is_eq, match_ordering}
use Rattle.std.specs.BTreeMap.{insert_entry, is_at}
use Rattle.std.specs.Map.{keys_of, lookup, remove_entry}
use Rattle.std.proofs.lemmas.Map.{NonePasses}
use Rattle.std.proofs.lemmas.Map.Keys.{IsDistinct-tail}
use Rattle.std.proofs.lemmas.Map.Entries.{none_past_head}

-- ---- what each item keeps

pub each_push : {X : Type 0} (P : X → Type 0) (xs : List X) (x : X) → AllByRecursion P xs → P x → AllByRecursion P (xs ++ x ∷ [])
each_push P [] x h is = (is, tt)
each_push P (y ∷ xs) x h is = (h.0, each_push P xs x h.1 is)

pub each_weaker : {X : Type 0} (P Q : X → Type 0) → ((x : X) → P x → Q x) → (xs : List X) → AllByRecursion P xs → AllByRecursion Q xs
each_weaker P Q f [] h = tt
each_weaker P Q f (x ∷ xs) h = (f x h.0, each_weaker P Q f xs h.1)

pub each_filter : {X : Type 0} (keep : X → Bool) (P : X → Type 0) (xs : List X) → AllByRecursion P xs → AllByRecursion P (filter keep xs)
each_filter keep P [] h = tt
each_filter keep P (x ∷ xs) h = by (keep x) (each_filter keep P xs h.1)
  where
    by : (b : Bool) → AllByRecursion P (filter keep xs) → AllByRecursion P (cond b (x ∷ filter keep xs) (filter keep xs))
    by true rest = (h.0, rest)
    by false rest = rest

pub each_removed : {K X : Type 0} (P : K × X → Type 0) (test : K → Bool) (es : List (K × X)) → AllByRecursion P es → AllByRecursion P (remove_entry test es)
each_removed P test [] h = tt
each_removed P test (e ∷ es) h = by (test e.0) (each_removed P test es h.1)
  where
    by : (b : Bool) → AllByRecursion P (remove_entry test es) → AllByRecursion P (cond b es (e ∷ remove_entry test es))
    by true rest = h.1
    by false rest = (h.0, rest)

pub length-removed : {K X : Type 0} (test : K → Bool) (es : List (K × X)) → length (remove_entry test es) ≤ length es
length-removed test [] = omega arith
length-removed test (e ∷ es) = by (test e.0) (length-removed test es)
  where
    by : (b : Bool) → length (remove_entry test es) ≤ length es → length (cond b es (e ∷ remove_entry test es)) ≤ length (e ∷ es)
    by true rest = omega arith
    by false rest = omega arith

-- ---- a new entry

module _ {K X : Type 0} (cmp : K → K → Ordering) (k : K) (v : X) where
  pub each_inserted : (P : K × X → Type 0) (es : List (K × X)) → lookup (is_at (cmp k)) es ≡ None → P (k, v) → AllByRecursion P es → AllByRecursion P (insert_entry cmp es k v)
  each_inserted P [] new is h = (is, tt)
  each_inserted P (e ∷ es) new is h = by (cmp k e.0) new (λ later. each_inserted P es later is h.1)
    where
      by : (o : Ordering) → cond (is_eq o) (Some e.1) (lookup (is_at (cmp k)) es) ≡ None → (lookup (is_at (cmp k)) es ≡ None → AllByRecursion P (insert_entry cmp es k v))
          → AllByRecursion P (match_ordering o ((k, v) ∷ e ∷ es) ((e.0, v) ∷ es) (e ∷ insert_entry cmp es k v))
      by Less new rest = (is, h)
      by Equal new rest = absurd (cc)
      by Greater new rest = (h.0, rest new)

  pub length-inserted : (es : List (K × X)) → length (insert_entry cmp es k v) ≤ length es + 1
  length-inserted [] = omega arith
  length-inserted (e ∷ es) = by (cmp k e.0) (length-inserted es)
    where
      by : (o : Ordering) → length (insert_entry cmp es k v) ≤ length es + 1 → length (match_ordering o ((k, v) ∷ e ∷ es) ((e.0, v) ∷ es) (e ∷ insert_entry cmp es k v)) ≤ length (e ∷ es) + 1
      by Less rest = omega arith
      by Equal rest = omega arith
      by Greater rest = omega arith

-- ---- the list that is seen

pub none_found : {A : Type 0} (o : Option A) → is_some o ≡ false → o ≡ None
none_found None h = refl
none_found (Some x) h = absurd (cc)

module _ {K X L : Type 0} (test : K → Bool) (view : K × X → L) (seen : L → Bool) (same : (e : K × X) → seen (view e) ≡ test e.0) where
  any-cons : (b : Bool) (x : X) (o : Option X) (r : Bool) → is_some o ≡ r → is_some (cond b (Some x) o) ≡ (b || r)
  any-cons true x o r e = refl
  any-cons false x o r e = e

  -- a look-up finds something where a thing that is seen passes
  pub list_any-view : (es : List (K × X)) → is_some (lookup test es) ≡ list_any seen (map view es)
  list_any-view [] = refl
  list_any-view (e ∷ es) =
      any-cons (test e.0) e.1 (lookup test es) (list_any seen (map view es)) (list_any-view es) ∙ ap (λ b. b || list_any seen (map view es)) (sym (same e))

-- what is seen of what a filter keeps
pub map-filter : {X L : Type 0} (view : X → L) (keep : L → Bool) (xs : List X) → map view (filter (λ x. keep (view x)) xs) ≡ filter keep (map view xs)
map-filter view keep [] = refl
map-filter view keep (x ∷ xs) = by (keep (view x)) (map-filter view keep xs)
  where
    by : (b : Bool) → map view (filter (λ y. keep (view y)) xs) ≡ filter keep (map view xs)
        → map view (cond b (x ∷ filter (λ y. keep (view y)) xs) (filter (λ y. keep (view y)) xs)) ≡ cond b (view x ∷ filter keep (map view xs)) (filter keep (map view xs))
    by true rest = ap (λ ls. view x ∷ ls) rest
    by false rest = rest

-- without the entry at k, the entries are those that aren't at k
module _ {K X : Type 0} {eq : K → K → Bool} (laws : IsEquivalence eq) (k : K) where
  filter-none : (es : List (K × X)) → NonePasses (eq k) es → filter (λ e. not (eq k e.0)) es ≡ es
  filter-none [] h = refl
  filter-none (e ∷ es) h =
      ap (λ b. cond (not b) (e ∷ filter (λ f. not (eq k f.0)) es) (filter (λ f. not (eq k f.0)) es)) h.0 ∙ ap (λ fs. e ∷ fs) (filter-none es h.1)

  pub removed-filter : (es : List (K × X)) → IsDistinct eq (keys_of es) → remove_entry (eq k) es ≡ filter (λ e. not (eq k e.0)) es
  removed-filter [] h = refl
  removed-filter (e ∷ es) h = by (eq k e.0) refl (removed-filter es (IsDistinct-tail eq e.0 (keys_of es) h))
    where
      by : (b : Bool) → eq k e.0 ≡ b → remove_entry (eq k) es ≡ filter (λ f. not (eq k f.0)) es
          → cond b es (e ∷ remove_entry (eq k) es) ≡ cond (not b) (e ∷ filter (λ f. not (eq k f.0)) es) (filter (λ f. not (eq k f.0)) es)
      by true is rest = sym (filter-none es (none_past_head laws k e es h is))
      by false is rest = ap (λ fs. e ∷ fs) rest
