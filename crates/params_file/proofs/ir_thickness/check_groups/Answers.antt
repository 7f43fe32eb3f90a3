use Rattle.std.proofs.lemmas.Result.{err_from_is_err_and}
use Rattle.params_file.specs.Faults.{is_memory}
use Rattle.simm_params.specs.GroupView.{group_view}
use Rattle.params_file.specs.Thickness.{thick_group}
use Rattle.params_file.proofs.Passes.{none_passed, one_more, one_fails, all_passed}
use Rattle.params_file.proofs.ir_thickness.check_groups.Goals as goal

pub loop-index-init : goal.loop-index-init
loop-index-init c = none_passed (thick_group c.args.kind c.args.weight.0) group_view c.args.groups.now

pub loop-index-preserved : goal.loop-index-preserved
loop-index-preserved c =
    one_more (thick_group c.args.kind c.args.weight.0) group_view c.loop-index.index c.args.groups.now c.loop-index.invariant c.index-groups-index.result c.loop-index-test.true c.index-groups-index.is c.in_ok-check_group.ensures

pub returns-in_err-check_group : goal.returns-in_err-check_group
returns-in_err-check_group c =
    let p = err_from_is_err_and c.from_residual.result c.from_residual.ensures.1 in
    rw (p.1, p.2)
    (one_fails (thick_group c.args.kind c.args.weight.0) group_view c.loop-index.index c.args.groups.now c.loop-index.invariant (is_memory c.in_err-check_group.field-0.0) c.in_err-check_group.field-0.0 c.index-groups-index.result c.loop-index-test.true c.index-groups-index.is c.in_err-check_group.ensures)

pub returns : goal.returns
returns c = all_passed (thick_group c.args.kind c.args.weight.0) group_view c.loop-index.index c.args.groups.now c.loop-index.invariant c.loop-index-test.false
