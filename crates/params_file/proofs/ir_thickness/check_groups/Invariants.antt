use Rattle.simm_params.specs.GroupView.{group_view}
use Rattle.params_file.specs.Thickness.{thick_group}
use Rattle.params_file.proofs.Passes.{PassedSoFar}
use Rattle.params_file.proofs.ir_thickness.check_groups.Given as goal

abbrev pub invariant-loop-index : goal.invariant-loop-index
invariant-loop-index l = PassedSoFar (thick_group l.kind l.weight.0) group_view l.index l.groups
