-- Correlations of a symmetric matrix, by place.
use Rattle.std.proofs.Common.{◌≡◌, ℕ, ◌≤◌, List, [], length, get_or, ℤ, pos, sym, ap, ◌∙◌, arith, inl, inr}
use Rattle.std.specs.Prelude.{unsigned_abs}
use Rattle.std.proofs.lemmas.Bool.{cases_lt}
use Rattle.std.proofs.lemmas.Int.{ints}
use Rattle.std.proofs.lemmas.List.{get_or_past}
use Rattle.simm_rules.specs.Lookups.{at_place, at_row}
use Rattle.simm_params.specs.Ranges.{correlations, IsWithin}
use Rattle.simm_params.specs.Matrix.{AreRates, IsMatrix}
use Rattle.simm_params.specs.Symmetry.{AreMirrored}
use Rattle.simm_params.specs.Weighed.{AreCorrelations}

size_within : (x : ℤ) → IsWithin correlations x → unsigned_abs x ≤ 10000
size_within x h = omega (arith, ints, h.low, h.high)

-- a row of the matrix, or none
row_size : (rates : List ℤ) (n column : ℕ) → AreRates n correlations rates → unsigned_abs (at_place rates column) ≤ 10000
row_size rates n column are = elim (cases_lt column (length rates)) [
  | inl lt ↦ size_within (at_place rates column) (are.within column (pos 0) lt)
  | inr past ↦ rw (get_or_past rates column (pos 0) past) (omega arith)
]

-- no row, no rate
no_row : (matrix : List (List ℤ)) (row column : ℕ) → length matrix ≤ row → at_row matrix row column ≡ pos 0
no_row matrix row column past = ap (λ r. at_place r column) (get_or_past matrix row [] past)

pub correlation_size : (n : ℕ) (matrix : List (List ℤ)) (row column : ℕ) → IsMatrix n correlations matrix → unsigned_abs (at_row matrix row column) ≤ 10000
correlation_size n matrix row column is = elim (cases_lt row (length matrix)) [
  | inl lt ↦ row_size (get_or matrix row []) n column (is.rows row [] lt)
  | inr past ↦ rw (no_row matrix row column past) (omega arith)
]

-- no column, no rate
no_column : (n : ℕ) (matrix : List (List ℤ)) (row column : ℕ) → IsMatrix n correlations matrix → length matrix ≤ column → at_row matrix row column ≡ pos 0
no_column n matrix row column is past = elim (cases_lt row (length matrix)) [
  | inl lt ↦ get_or_past (get_or matrix row []) column (pos 0) (omega (arith, (is.rows row [] lt).full, is.full))
  | inr none ↦ no_row matrix row column none
]

pub correlation_symmetric : (n : ℕ) (matrix : List (List ℤ)) (row column : ℕ) → IsMatrix n correlations matrix → AreMirrored matrix → at_row matrix row column ≡ at_row matrix column row
correlation_symmetric n matrix row column is mirrored = elim (cases_lt row (length matrix)) [
  | inl lt ↦ elim (cases_lt column (length matrix)) [
    | inl within ↦ mirrored.symmetric row column lt within
    | inr past ↦ no_column n matrix row column is past ∙ sym (no_row matrix column row past)
  ]
  | inr past ↦ no_row matrix row column past ∙ sym (no_column n matrix column row is past)
]

pub correlated : (n : ℕ) (matrix : List (List ℤ)) → IsMatrix n correlations matrix → AreMirrored matrix → AreCorrelations matrix
correlated n matrix is mirrored = record {
  symmetric = λ row column. correlation_symmetric n matrix row column is mirrored;
  size = λ row column. correlation_size n matrix row column is;
}
