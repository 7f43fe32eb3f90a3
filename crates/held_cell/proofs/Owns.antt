-- The entries of a range of callers, by one filter and by two.
use Rattle.std.proofs.Common.{◌≡◌, ℕ, ◌+◌, ◌<◌, ◌≤◌, Bool, true, false, slice_index_or, List, [], ◌∷◌, ◌++◌, filter, All, refl, ap, sym, ◌∙◌, arith, append-nil}
use Rattle.std.proofs.lemmas.Bool.Decides.{nat_tests}
use Rattle.std.proofs.lemmas.List.Elements.{filter-append, All-head, All-tail}
use Rattle.held_cell.specs.declared.entry.Entry.{Entry}
use Rattle.held_cell.specs.Entries.{is_in, own_of}

module _ {X : Type 0} where
  pub filter_none : (p : X → Bool) (xs : List X) → All (λ x. p x ≡ false) xs → filter p xs ≡ []
  filter_none p [] all = refl
  filter_none p (x ∷ xs) all = rw (All-head (λ y. p y ≡ false) x xs all) (filter_none p xs (All-tail (λ y. p y ≡ false) x xs all))

  pub filter_pass : (p : X → Bool) (xs : List X) → All (λ x. p x ≡ true) xs → filter p xs ≡ xs
  filter_pass p [] all = refl
  filter_pass p (x ∷ xs) all = rw (All-head (λ y. p y ≡ true) x xs all) (ap (λ ys. x ∷ ys) (filter_pass p xs (All-tail (λ y. p y ≡ true) x xs all)))

  -- a filter behind a wider one
  pub filter-filter : (p q : X → Bool) → ((x : X) → q x ≡ true → p x ≡ true) → (xs : List X) → filter q (filter p xs) ≡ filter q xs
  filter-filter p q within [] = refl
  filter-filter p q within (x ∷ xs) = grind (arith, filter-filter p q within xs, within x)

  -- what passes neither of two tests
  pub filter_neither : (p q r : X → Bool) → ((x : X) → p x ≡ false → q x ≡ false → r x ≡ false) → (xs : List X) → filter p xs ≡ [] → filter q xs ≡ [] → filter r xs ≡ []
  filter_neither p q r away [] none_p none_q = refl
  filter_neither p q r away (x ∷ xs) none_p none_q = grind (arith, filter_neither p q r away xs, away x)

module _ {E R : Type 0} where
  pub in_range : (first count : ℕ) (e : Entry E R) → is_in first count e ≡ true → (first ≤ e.caller) × (e.caller < first + count)
  in_range first count e is = (grind (arith, nat_tests), grind (arith, nat_tests))

  pub is_in_true : (first count : ℕ) (e : Entry E R) → first ≤ e.caller → e.caller < first + count → is_in first count e ≡ true
  is_in_true first count e low high = grind (arith, nat_tests)

  pub is_in_false : (first count : ℕ) (e : Entry E R) → (first ≤ e.caller → e.caller < first + count → ⊥) → is_in first count e ≡ false
  is_in_false first count e out = grind (arith, nat_tests)

  pub own_within : (first count f c : ℕ) → first ≤ f → f + c ≤ first + count → (log : List (Entry E R)) → own_of f c (own_of first count log) ≡ own_of f c log
  own_within first count f c low high log = filter-filter (is_in first count) (is_in f c) (λ e is. let r = in_range f c e is in is_in_true first count e (omega arith) (omega arith)) log

  -- where nothing is of a range, nothing is of a part of it
  pub own_none_within : (first count f c : ℕ) → first ≤ f → f + c ≤ first + count → (log : List (Entry E R)) → own_of first count log ≡ [] → own_of f c log ≡ []
  own_none_within first count f c low high log none = sym (own_within first count f c low high log) ∙ ap (own_of f c) none

  -- where nothing is of two ranges side by side, nothing is of both
  pub own_none_both : (first count more : ℕ) (log : List (Entry E R)) → own_of first count log ≡ [] → own_of (first + count) more log ≡ [] → own_of first (count + more) log ≡ []
  own_none_both first count more log = filter_neither (is_in first count) (is_in (first + count) more) (is_in first (count + more)) (λ e. grind (arith, nat_tests)) log

  pub own_nobody : (first : ℕ) (log : List (Entry E R)) → own_of first 0 log ≡ []
  own_nobody first log = filter_none (is_in first 0) log (λ k d h. is_in_false first 0 (slice_index_or log k d) (λ low high. omega arith))

  pub own-append : (first count : ℕ) (xs ys : List (Entry E R)) → own_of first count (xs ++ ys) ≡ own_of first count xs ++ own_of first count ys
  own-append first count xs ys = filter-append (is_in first count) xs ys

  -- a rest with nothing of a range adds nothing
  pub own_kept : (first count : ℕ) (seen rest log : List (Entry E R)) → seen ++ rest ≡ log → own_of first count rest ≡ [] → own_of first count log ≡ own_of first count seen
  own_kept first count seen rest log begins none = sym (ap (own_of first count) begins) ∙ own-append first count seen rest ∙ ap (λ ys. own_of first count seen ++ ys) none ∙ append-nil (own_of first count seen)
