-- What the entries of a journal give, caller by caller: in another order it is all that they give.
use Rattle.std.proofs.Common.{◌≡◌, ℕ, zero, suc, ◌&&◌, ◌||◌, cond, List, [], ◌∷◌, ◌++◌, Bool, true, false, refl, sym, ap, ◌∙◌, subst, append_assoc, arith}
use Rattle.std.specs.List.{filter, flat_map}
use Rattle.std.specs.List.Sorted.{IsPermutation}
use Rattle.std.proofs.lemmas.Bool.{true≢false}
use Rattle.std.proofs.lemmas.Bool.Decides.{nat_tests}
use Rattle.std.proofs.lemmas.List.Sorted.{IsPermutation-refl, IsPermutation-trans, IsPermutation-append_comm, IsPermutation-append_left, IsPermutation-append_right}
use Rattle.held_cell.specs.declared.entry.Entry.{Entry}
use Rattle.held_cell.specs.Entries.{is_in, own_of}

-- an item that passes the first test passes just one of the other two, and another passes none
record Parts {X : Type 0} (p q r : X → Bool) (x : X) : Type 0 where
  either : p x ≡ (q x || r x)
  apart : (q x && r x) ≡ false

-- the second part goes to the front
behind_first : {Y : Type 0} (xs ys zs : List Y) → IsPermutation (xs ++ (ys ++ zs)) (ys ++ (xs ++ zs))
behind_first xs ys zs =
    subst (λ us. IsPermutation us (ys ++ (xs ++ zs))) (append_assoc xs ys zs)
    (subst (IsPermutation (xs ++ ys ++ zs)) (append_assoc ys xs zs) (IsPermutation-append_left zs (xs ++ ys) (ys ++ xs) (IsPermutation-append_comm xs ys)))

in_parts : {X Y : Type 0} (f : X → List Y) (p q r : X → Bool) → ((x : X) → Parts p q r x) → (xs : List X)
    → IsPermutation (flat_map f (filter p xs)) (flat_map f (filter q xs) ++ flat_map f (filter r xs))
in_parts f p q r h [] = IsPermutation-refl []
in_parts f p q r h (x ∷ xs) = by (p x) (q x) (r x) (h x).either (h x).apart (in_parts f p q r h xs)
  where
    by : (a b c : Bool) → a ≡ (b || c) → (b && c) ≡ false → IsPermutation (flat_map f (filter p xs)) (flat_map f (filter q xs) ++ flat_map f (filter r xs))
        → IsPermutation (flat_map f (cond a (x ∷ filter p xs) (filter p xs))) (flat_map f (cond b (x ∷ filter q xs) (filter q xs)) ++ flat_map f (cond c (x ∷ filter r xs) (filter r xs)))
    by a true true e n i = absurd (true≢false n)
    by false true false e n i = absurd (true≢false (sym e))
    by true true false e n i =
        subst (IsPermutation (f x ++ flat_map f (filter p xs))) (sym (append_assoc (f x) (flat_map f (filter q xs)) (flat_map f (filter r xs))))
        (IsPermutation-append_right (f x) (flat_map f (filter p xs)) (flat_map f (filter q xs) ++ flat_map f (filter r xs)) i)
    by false false true e n i = absurd (true≢false (sym e))
    by true false true e n i =
        IsPermutation-trans (f x ++ flat_map f (filter p xs)) (f x ++ (flat_map f (filter q xs) ++ flat_map f (filter r xs))) (flat_map f (filter q xs) ++ (f x ++ flat_map f (filter r xs)))
        (IsPermutation-append_right (f x) (flat_map f (filter p xs)) (flat_map f (filter q xs) ++ flat_map f (filter r xs)) i)
        (behind_first (f x) (flat_map f (filter q xs)) (flat_map f (filter r xs)))
    by true false false e n i = absurd (true≢false e)
    by false false false e n i = i

module _ {E R Y : Type 0} (f : Entry E R → List Y) where
  -- what the entries of the first callers give, one caller after another
  abbrev pub by_caller : ℕ → List (Entry E R) → List Y
  by_caller zero log = []
  by_caller (suc n) log = by_caller n log ++ flat_map f (own_of n 1 log)

  either_caller : (n : ℕ) (e : Entry E R) → is_in 0 (suc n) e ≡ (is_in 0 n e || is_in n 1 e)
  either_caller n e = grind (arith, nat_tests)

  not_both : (n : ℕ) (e : Entry E R) → (is_in 0 n e && is_in n 1 e) ≡ false
  not_both n e = grind (arith, nat_tests)

  no_caller : (e : Entry E R) → is_in 0 0 e ≡ false
  no_caller e = grind (arith, nat_tests)

  none_of_none : (log : List (Entry E R)) → own_of 0 0 log ≡ []
  none_of_none [] = refl
  none_of_none (e ∷ log) = ap (λ t. cond t (e ∷ own_of 0 0 log) (own_of 0 0 log)) (no_caller e) ∙ none_of_none log

  by_callers : (n : ℕ) (log : List (Entry E R)) → IsPermutation (flat_map f (own_of 0 n log)) (by_caller n log)
  by_callers zero log = subst (λ es. IsPermutation (flat_map f es) []) (sym (none_of_none log)) (IsPermutation-refl [])
  by_callers (suc n) log =
      IsPermutation-trans (flat_map f (own_of 0 (suc n) log)) (flat_map f (own_of 0 n log) ++ flat_map f (own_of n 1 log)) (by_caller (suc n) log)
      (in_parts f (is_in 0 (suc n)) (is_in 0 n) (is_in n 1) (λ e. record { either = either_caller n e; apart = not_both n e }) log)
      (IsPermutation-append_left (flat_map f (own_of n 1 log)) (flat_map f (own_of 0 n log)) (by_caller n log) (by_callers n log))

  -- a journal whose entries are all of the first callers
  pub callers_apart : (n : ℕ) (log : List (Entry E R)) → own_of 0 n log ≡ log → IsPermutation (flat_map f log) (by_caller n log)
  callers_apart n log all = subst (λ es. IsPermutation (flat_map f es) (by_caller n log)) all (by_callers n log)
