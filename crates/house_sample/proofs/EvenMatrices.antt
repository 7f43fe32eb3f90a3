-- Matrices of correlations that are all alike: their size, their places, and that they are symmetric.
use Rattle.std.proofs.Common.{◌≡◌, ◌==◌, ℕ, zero, suc, ◌<◌, List, [], ◌∷◌, ◌++◌, length, get_or, Bool, true, false, if◌then◌else◌, inl, inr, refl, sym, ap, ◌∙◌, subst, arith, ℤ, pos, length-append}
use Rattle.std.specs.List.{All}
use Rattle.std.proofs.Math.Seq.{get_or-append_seam}
use Rattle.std.proofs.lemmas.List.{get_or_append_left}
use Rattle.std.proofs.lemmas.List.Elements.{All-nil, All-push}
use Rattle.std.proofs.lemmas.Bool.{cases_lt, cases_eq, eq-eqb, ne_eqb}
use Rattle.simm_params.specs.TomlValues.declared.range.Range.{Range}
use Rattle.simm_params.specs.Ranges.{IsWithin}
use Rattle.simm_params.specs.Matrix.{entry, AreRates, IsMatrix}
use Rattle.simm_params.specs.Symmetry.{AreMirrored}
use Rattle.house_sample.specs.Matrices.{alike, row_to, rows_to, even}

-- ---- lists that grow by one

-- what stands last
at_last : {X : Type 0} (xs : List X) (x d : X) (n j : ℕ) → length xs ≡ n → j ≡ n → get_or (xs ++ x ∷ []) j d ≡ x
at_last xs x d n j long here = subst (λ (k : ℕ). get_or (xs ++ x ∷ []) k d ≡ x) (long ∙ sym here) (get_or-append_seam xs x [] d)

one_longer : {X : Type 0} (xs : List X) (x : X) (n : ℕ) → length xs ≡ n → length (xs ++ x ∷ []) ≡ suc n
one_longer xs x n long = omega (arith, long, length-append xs (x ∷ []))

either : {X : Type 0} (P : X → Type 0) (test : Bool) (x y : X) → P x → P y → P (if test then x else y)
either P true x y p q = p
either P false x y p q = q

-- ---- rows

length-row : (rate : ℤ) (place n : ℕ) → length (row_to rate place n) ≡ n
length-row rate place zero = refl
length-row rate place (suc n) = one_longer (row_to rate place n) _ n (length-row rate place n)

row-at : (rate : ℤ) (place n j : ℕ) → j < n → get_or (row_to rate place n) j (pos 0) ≡ (if place == j then pos 10000 else rate)
row-at rate place zero j h = absurd (omega (arith, h))
row-at rate place (suc n) j h =
    let x = if place == n then pos 10000 else rate in
    elim (cases_lt j n) [
      | inl before ↦ get_or_append_left (row_to rate place n) (x ∷ []) (pos 0) j (omega (arith, before, length-row rate place n)) ∙ row-at rate place n j before
      | inr behind ↦
          let last : j ≡ n = omega (arith, h, behind) in
          at_last (row_to rate place n) x (pos 0) n j (length-row rate place n) last ∙ ap (λ (k : ℕ). if place == k then pos 10000 else rate) (sym last)
    ]

row-within : (range : Range) (rate : ℤ) (place n : ℕ) → IsWithin range (pos 10000) → IsWithin range rate → All (IsWithin range) (row_to rate place n)
row-within range rate place zero one its = All-nil (IsWithin range)
row-within range rate place (suc n) one its =
    All-push (IsWithin range) (row_to rate place n) _ (row-within range rate place n one its) (either (IsWithin range) (place == n) (pos 10000) rate one its)

-- ---- matrices

length-rows : (rate : ℤ) (size n : ℕ) → length (rows_to rate size n) ≡ n
length-rows rate size zero = refl
length-rows rate size (suc n) = one_longer (rows_to rate size n) _ n (length-rows rate size n)

rows-at : (rate : ℤ) (size n i : ℕ) → i < n → get_or (rows_to rate size n) i [] ≡ row_to rate i size
rows-at rate size zero i h = absurd (omega (arith, h))
rows-at rate size (suc n) i h =
    elim (cases_lt i n) [
      | inl before ↦ get_or_append_left (rows_to rate size n) (row_to rate n size ∷ []) [] i (omega (arith, before, length-rows rate size n)) ∙ rows-at rate size n i before
      | inr behind ↦
          let last : i ≡ n = omega (arith, h, behind) in
          at_last (rows_to rate size n) (row_to rate n size) [] n i (length-rows rate size n) last ∙ ap (λ (k : ℕ). row_to rate k size) (sym last)
    ]

rows-within : (range : Range) (rate : ℤ) (size n : ℕ) → IsWithin range (pos 10000) → IsWithin range rate → All (AreRates size range) (rows_to rate size n)
rows-within range rate size zero one its = All-nil (AreRates size range)
rows-within range rate size (suc n) one its =
    All-push (AreRates size range) (rows_to rate size n) (row_to rate n size) (rows-within range rate size n one its) (record {
      full = length-row rate n size;
      within = row-within range rate n size one its;
    })

rows-square : (rate : ℤ) (size n : ℕ) → All (λ row. length row ≡ size) (rows_to rate size n)
rows-square rate size zero = All-nil (λ row. length row ≡ size)
rows-square rate size (suc n) =
    All-push (λ row. length row ≡ size) (rows_to rate size n) (row_to rate n size) (rows-square rate size n) (length-row rate n size)

-- as many rows as columns
pub even_square : (rate : ℤ) (size : ℕ) → All (λ row. length row ≡ length (even rate size)) (even rate size)
even_square rate size = subst (λ (n : ℕ). All (λ (row : List ℤ). length row ≡ n) (even rate size)) (sym (length-rows rate size size)) (rows-square rate size size)

pub even-matrix : (range : Range) (rate : ℤ) (size : ℕ) → IsWithin range (pos 10000) → IsWithin range rate → IsMatrix size range (even rate size)
even-matrix range rate size one its = record { full = length-rows rate size size; rows = rows-within range rate size size one its }

even-at : (rate : ℤ) (size i j : ℕ) → i < size → j < size → entry (even rate size) i j ≡ (if i == j then pos 10000 else rate)
even-at rate size i j low near = ap (λ (row : List ℤ). get_or row j (pos 0)) (rows-at rate size size i low) ∙ row-at rate i size j near

same_turned : (i j : ℕ) → (i == j) ≡ (j == i)
same_turned i j = elim (cases_eq i j) [
  | inl same ↦ eq-eqb i j same ∙ sym (eq-eqb j i (sym same))
  | inr other ↦ ne_eqb i j other ∙ sym (ne_eqb j i (λ same. other (sym same)))
]

pub even-mirrored : (rate : ℤ) (size : ℕ) → AreMirrored (even rate size)
even-mirrored rate size = record {
  symmetric = λ i j low near.
      let i_in : i < size = omega (arith, low, length-rows rate size size) in
      let j_in : j < size = omega (arith, near, length-rows rate size size) in
      even-at rate size i j i_in j_in ∙ ap (λ t. if t then pos 10000 else rate) (same_turned i j) ∙ sym (even-at rate size j i j_in i_in);
  diagonal = λ k low.
      let k_in : k < size = omega (arith, low, length-rows rate size size) in
      even-at rate size k k k_in k_in ∙ ap (λ t. if t then pos 10000 else rate) (eq-eqb k k refl);
}

-- ---- one rate everywhere

length-alike : (rate : ℤ) (n : ℕ) → length (alike rate n) ≡ n
length-alike rate zero = refl
length-alike rate (suc n) = one_longer (alike rate n) rate n (length-alike rate n)

pub All-alike : (P : ℤ → Type 0) (rate : ℤ) (n : ℕ) → P rate → All P (alike rate n)
All-alike P rate zero its = All-nil P
All-alike P rate (suc n) its = All-push P (alike rate n) rate (All-alike P rate n its) its

pub alike-rates : (range : Range) (rate : ℤ) (n : ℕ) → IsWithin range rate → AreRates n range (alike rate n)
alike-rates range rate n its = record { full = length-alike rate n; within = All-alike (IsWithin range) rate n its }
