-- What the tests of a matrix mean.
use Rattle.std.proofs.Common.{◌≡◌, ℕ, zero, suc, ◌+◌, ◌<◌, Bool, true, false, ◌&&◌, List, length, ℤ, pos, inl, inr, sym, ap, ◌∙◌, add-one, arith}
use Rattle.std.specs.Ordering.{int_eq}
use Rattle.std.proofs.Math.Bool.{and-false}
use Rattle.std.proofs.lemmas.Bool.{and_parts, cases_lt}
use Rattle.std.proofs.lemmas.Bool.Decides.{Decides-int_eq}
use Rattle.simm_params.specs.Matrix.{entry}
use Rattle.simm_params.specs.Symmetry.{IsSymmetric, HasUnitDiagonal}
use Rattle.params_file.specs.Symmetry.{all_below, is_mirrored, is_symmetric, has_unit_diagonal}

-- one number more
pub all_below-more : (n : ℕ) (test : ℕ → Bool) → all_below n test ≡ true → test n ≡ true → all_below (n + 1) test ≡ true
all_below-more n test h is = ap (λ k. all_below k test) (add-one n) ∙ ap (λ b. b && test n) h ∙ is

-- a number that fails
pub all_below-fails : (n : ℕ) (test : ℕ → Bool) (k : ℕ) → k < n → test k ≡ false → all_below n test ≡ false
all_below-fails zero test k lt fails = absurd (omega arith)
all_below-fails (suc n) test k lt fails =
    elim (cases_lt k n) [
      | inl below ↦ ap (λ b. b && test n) (all_below-fails n test k below fails)
      | inr le ↦ let here : n ≡ k = omega arith in ap (λ b. all_below n test && b) (ap test here ∙ fails) ∙ and-false (all_below n test)
    ]

-- each number passes
pub all_below-each : (n : ℕ) (test : ℕ → Bool) → all_below n test ≡ true → (k : ℕ) → k < n → test k ≡ true
all_below-each zero test h k lt = absurd (omega arith)
all_below-each (suc n) test h k lt =
    let both = and_parts (all_below n test) (test n) h in
    elim (cases_lt k n) [
      | inl below ↦ all_below-each n test both.0 k below
      | inr le ↦ let here : k ≡ n = omega arith in ap test here ∙ both.1
    ]

equal_from : (a b : ℤ) → int_eq a b ≡ true → a ≡ b
equal_from a b h = (Decides-int_eq a b).0 h

pub symmetric-from : (matrix : List (List ℤ)) → is_symmetric matrix ≡ true → IsSymmetric matrix
symmetric-from matrix h row column r c =
    let below : (i j : ℕ) → i < length matrix → j < i → entry matrix i j ≡ entry matrix j i = λ i j lt less. equal_from _ _ (all_below-each i (is_mirrored matrix i) (all_below-each (length matrix) (λ k. all_below k (is_mirrored matrix k)) h i lt) j less) in
    elim (cases_lt column row) [
      | inl less ↦ below row column r less
      | inr le ↦ elim (cases_lt row column) [
        | inl less ↦ sym (below column row c less)
        | inr ge ↦ let here : row ≡ column = omega arith in ap (λ k. entry matrix k column) here ∙ ap (entry matrix column) (sym here)
      ]
    ]

pub diagonal-from : (matrix : List (List ℤ)) → has_unit_diagonal matrix ≡ true → HasUnitDiagonal matrix
diagonal-from matrix h place lt = equal_from _ _ (all_below-each (length matrix) (λ k. int_eq (entry matrix k k) (pos 10000)) h place lt)
