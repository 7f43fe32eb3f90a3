use Rattle.std.proofs.Common.{ap, ◌∙◌}
use Rattle.std.proofs.lemmas.Result.{IfOk-weaker}
use Rattle.simm_kinds.specs.Order.{same_name}
use Rattle.simm_kinds.specs.Repeats.{repeats}
use Rattle.simm_kinds.proofs.Repeated.{lent_repeat}
use Rattle.simm_kinds.proofs.batch_faults.names_repeat.Goals as goal

pub returns : goal.returns
returns c =
    IfOk-weaker c.repeats.result _ _
    (λ found is. is ∙ lent_repeat same_name c.in_ok-names.names.items c.as_slice.result.now c.as_slice.ensures.value ∙ ap (repeats same_name) c.in_ok-names.ensures)
    c.repeats.ensures
