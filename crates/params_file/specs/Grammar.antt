-- The grammar of the parameter file: its tests in order, each with its path, its kind of value and its range; then whether each
-- matrix is symmetric, and last whether a threshold is too thin beside a weight. The first fault ends them. Other keys are passed
-- over.
use Rattle.std.specs.Prelude.{ℕ, List, [], ◌∷◌, Option, ok_or, Result, Ok, ℤ, codes}
use Rattle.std.specs.Result.{result_ok}
use Rattle.toml.specs.Data.{Members, get_member}
use Rattle.simm_params.specs.SimmRules.Params.{IrParams, FxParams, CreditParams, PricedParams, Params}
use Rattle.simm_params.specs.TomlValues.declared.fault.ValueFault.{ValueFault}
use Rattle.simm_params.specs.TomlValues.Paths.{joined}
use Rattle.simm_params.specs.TomlValues.Answers.{◌>>=◌}
use Rattle.simm_params.specs.TomlValues.Values.{table_of, currency_of, six_of}
use Rattle.simm_params.specs.TomlValues.Document.{document_of}
use Rattle.params_file.specs.declared.bucket_class.BucketClass.{BucketClass}
use Rattle.params_file.specs.declared.bucket_class.BucketClass.TheVariants as class
use Rattle.params_file.specs.declared.fault.ParamFault.{ParamFault}
use Rattle.params_file.specs.declared.fault.ParamFault.TheVariants.{Toml}
use Rattle.params_file.specs.Faults.{of_value}
use Rattle.simm_params.specs.Ranges.{correlations, lambda_bases}
use Rattle.params_file.specs.Matrix.{matrix_of}
use Rattle.params_file.specs.Ir.{ir_of}
use Rattle.params_file.specs.Fx.{fx_of}
use Rattle.params_file.specs.Classes.{credit_of, priced_of, base_of}
use Rattle.params_file.specs.BucketClass.{class_key, has_residual}
use Rattle.simm_params.specs.ClassParts.{Classes}
use Rattle.params_file.specs.Symmetry.{symmetric_params}
use Rattle.params_file.specs.Thickness.{thick_params}

-- ---- the values

unfoldable pub calculation_currency_of : Members → Result (List ℕ) ValueFault
calculation_currency_of root = currency_of (joined (codes "calculation_currency" ∷ [])) (get_member (codes "calculation_currency") root)

unfoldable pub lambda_base_of : Members → Result ℤ ValueFault
lambda_base_of root = six_of (joined (codes "lambda_base" ∷ [])) lambda_bases (get_member (codes "lambda_base") root)

-- a row and a column for each risk class
unfoldable pub psi_of : Members → Result (List (List ℤ)) ValueFault
psi_of root = matrix_of (codes "psi" ∷ []) 6 correlations (get_member (codes "psi") root)

unfoldable pub ir_table_of : Members → Result IrParams ValueFault
ir_table_of root = do
  table ← table_of (joined (codes "ir" ∷ [])) (get_member (codes "ir") root)
  ir_of table

unfoldable pub fx_table_of : Members → Result FxParams ValueFault
fx_table_of root = do
  table ← table_of (joined (codes "fx" ∷ [])) (get_member (codes "fx") root)
  fx_of table

unfoldable pub class_table_of : BucketClass → Members → Result Members ValueFault
class_table_of which root = table_of (joined (class_key which ∷ [])) (get_member (class_key which) root)

unfoldable pub credit_table_of : BucketClass → Members → Result CreditParams ValueFault
credit_table_of which root = do
  table ← class_table_of which root
  credit_of (class_key which) table

unfoldable pub priced_table_of : BucketClass → Members → Result PricedParams ValueFault
priced_table_of which root = do
  table ← class_table_of which root
  priced_of (class_key which) (has_residual which) table

unfoldable pub classes_of : Members → Result Classes ValueFault
classes_of root = do
  credit_q ← credit_table_of class.CreditQ root
  credit_nq ← credit_table_of class.CreditNonQ root
  equity ← priced_table_of class.Equity root
  commodity ← priced_table_of class.Commodity root
  Ok (record { credit_q = credit_q; credit_nq = credit_nq; equity = equity; commodity = commodity })

-- the weight and the correlation of base correlations, which come last
unfoldable pub base_table_of : Members → Result (ℤ × ℤ) ValueFault
base_table_of root = do
  table ← class_table_of class.CreditQ root
  base_of table

unfoldable pub tables_of : Members → Result Params ValueFault
tables_of root = do
  currency ← calculation_currency_of root
  lambda_base ← lambda_base_of root
  psi ← psi_of root
  ir ← ir_table_of root
  fx ← fx_table_of root
  classes ← classes_of root
  base ← base_table_of root
  Ok (record {
    calculation_currency = currency;
    lambda_base = lambda_base;
    psi = psi;
    ir = ir;
    fx = fx;
    credit_q = classes.credit_q;
    credit_nq = classes.credit_nq;
    equity = classes.equity;
    commodity = classes.commodity;
    base_weight = base.0;
    base_rho = base.1;
  })

-- ---- the file

unfoldable pub params_of_table : Members → Result Params ParamFault
params_of_table root = do
  params ← of_value (tables_of root)
  symmetric ← symmetric_params params
  thick ← thick_params params
  Ok params

-- the parameters of the file, or its first fault
unfoldable pub params_read : List ℕ → Result Params ParamFault
params_read bytes = do
  root ← ok_or (document_of bytes) Toml
  params_of_table root

-- the parameters of the file, where it has no fault
unfoldable pub params_of : List ℕ → Option Params
params_of bytes = result_ok (params_read bytes)
