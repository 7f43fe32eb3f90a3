use Rattle.params_file.specs.Faults.{is_memory}
use Rattle.simm_params.specs.IrView.{ir_view}
use Rattle.params_file.specs.Thickness.{IsThickIr}
use Rattle.params_file.proofs.Each.{of_given}
use Rattle.params_file.proofs.ThickIr.{is_thick_ir}
use Rattle.params_file.proofs.ir_thickness.check_ir.Goals as goal

pub returns-clause-thick : goal.returns-clause-thick
returns-clause-thick c =
    of_given {P = λ _. IsThickIr c.args.kind (ir_view c.args.ir.now)} is_memory (λ u. u) c.check_groups.result _
    (λ _ passed. is_thick_ir c.args.kind (ir_view c.args.ir.now) c.least_weight-weight.result.0 _ c.least_weight-weight.ensures c.groups.ensures c.in_ok-check_other.ensures.thick passed)
    c.check_groups.ensures
