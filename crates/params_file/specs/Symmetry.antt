-- The tests of matrices of correlations: each is symmetric, and its diagonal is 1.
use Rattle.std.specs.Prelude.{ℕ, zero, suc, Bool, true, ◌&&◌, List, [], ◌∷◌, length, Result, Ok, Err, ℤ, pos, codes, if◌then◌else◌}
use Rattle.std.specs.Ordering.{int_eq}
use Rattle.simm_params.specs.SimmRules.Params.{Params}
use Rattle.simm_params.specs.TomlValues.Paths.{joined}
use Rattle.simm_params.specs.TomlValues.Answers.{◌>>=◌}
use Rattle.params_file.specs.declared.bucket_class.BucketClass.{BucketClass}
use Rattle.params_file.specs.declared.bucket_class.BucketClass.TheVariants as class
use Rattle.params_file.specs.declared.fault.ParamFault.{ParamFault}
use Rattle.params_file.specs.declared.fault.ParamFault.TheVariants.{NotSymmetric}
use Rattle.params_file.specs.BucketClass.{class_key}
use Rattle.simm_params.specs.Matrix.{entry}
use Rattle.simm_params.specs.Symmetry.{AreMirrored, IsSymmetric}

-- the test holds of each number below this one
abbrev pub all_below : ℕ → (ℕ → Bool) → Bool
all_below zero test = true
all_below (suc n) test = all_below n test && test n

-- the value at a row and a column is that across the diagonal
abbrev pub is_mirrored : List (List ℤ) → ℕ → ℕ → Bool
is_mirrored matrix row column = int_eq (entry matrix row column) (entry matrix column row)

abbrev pub is_symmetric : List (List ℤ) → Bool
is_symmetric matrix = all_below (length matrix) (λ row. all_below row (is_mirrored matrix row))

-- 1 is ten thousand ten-thousandths
abbrev pub has_unit_diagonal : List (List ℤ) → Bool
has_unit_diagonal matrix = all_below (length matrix) (λ place. int_eq (entry matrix place place) (pos 10000))

-- ---- the tests, with the path of the matrix

abbrev pub symmetric_at : List ℕ → List (List ℤ) → Result (Unit {0}) ParamFault
symmetric_at path matrix = if is_symmetric matrix then Ok tt else Err (NotSymmetric path)

abbrev pub correlations_at : List ℕ → List (List ℤ) → Result (Unit {0}) ParamFault
correlations_at path matrix = if is_symmetric matrix && has_unit_diagonal matrix then Ok tt else Err (NotSymmetric path)

-- ---- the tests of all matrices, in their order

unfoldable pub symmetric_psi : List (List ℤ) → Result (Unit {0}) ParamFault
symmetric_psi matrix = correlations_at (joined (codes "psi" ∷ [])) matrix

unfoldable pub symmetric_tenors : List (List ℤ) → Result (Unit {0}) ParamFault
symmetric_tenors matrix = correlations_at (joined (codes "ir" ∷ codes "rho" ∷ [])) matrix

unfoldable pub symmetric_pairs : List (List ℤ) → Result (Unit {0}) ParamFault
symmetric_pairs matrix = symmetric_at (joined (codes "fx" ∷ codes "vega_threshold" ∷ [])) matrix

unfoldable pub symmetric_gamma : BucketClass → List (List ℤ) → Result (Unit {0}) ParamFault
symmetric_gamma which matrix = correlations_at (joined (class_key which ∷ codes "gamma" ∷ [])) matrix

unfoldable pub symmetric_params : Params → Result (Unit {0}) ParamFault
symmetric_params p = do
  psi ← symmetric_psi p.psi
  ir ← symmetric_tenors p.ir.rho
  fx ← symmetric_pairs p.fx.vega_threshold
  credit_q ← symmetric_gamma class.CreditQ p.credit_q.gamma
  credit_nq ← symmetric_gamma class.CreditNonQ p.credit_nq.gamma
  equity ← symmetric_gamma class.Equity p.equity.gamma
  symmetric_gamma class.Commodity p.commodity.gamma

-- what they mean
pub record AreSymmetric (p : Params) : Type 0 where
  pub psi : AreMirrored p.psi
  pub ir : AreMirrored p.ir.rho
  pub fx : IsSymmetric p.fx.vega_threshold
  pub credit_q : AreMirrored p.credit_q.gamma
  pub credit_nq : AreMirrored p.credit_nq.gamma
  pub equity : AreMirrored p.equity.gamma
  pub commodity : AreMirrored p.commodity.gamma
