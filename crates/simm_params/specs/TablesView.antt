-- The values of all that a file says.
use Rattle.simm_rules.specs.Params.{Params}
use Rattle.simm_params.specs.declared.tables.ClassTables.{ClassTables}
use Rattle.simm_params.specs.declared.tables.Tables.{Tables}
use Rattle.simm_params.specs.ClassView.{credit_view, priced_view}
use Rattle.simm_params.specs.IrView.{ir_view}
use Rattle.simm_params.specs.FxView.{fx_view}
use Rattle.simm_params.specs.ClassParts.{Classes}

abbrev pub classes_view : ClassTables → Classes
classes_view t = record {
  credit_q = credit_view t.credit_q;
  credit_nq = credit_view t.credit_nq;
  equity = priced_view t.equity;
  commodity = priced_view t.commodity;
}

abbrev pub tables_view : Tables → Params
tables_view t = record {
  calculation_currency = t.calculation_currency;
  lambda_base = t.lambda_base.0;
  psi = t.psi;
  ir = ir_view t.ir;
  fx = fx_view t.fx;
  credit_q = credit_view t.classes.credit_q;
  credit_nq = credit_view t.classes.credit_nq;
  equity = priced_view t.classes.equity;
  commodity = priced_view t.classes.commodity;
  base_weight = t.base.weight.0;
  base_rho = t.base.rho.0;
}
