use Rattle.std.proofs.Common.{ap, ◌∙◌}
use Rattle.std.proofs.lemmas.Result.{IfOk-weaker}
use Rattle.simm_kinds.specs.Order.{same_product}
use Rattle.simm_kinds.specs.Repeats.{repeats}
use Rattle.simm_kinds.proofs.Orders.{derived_same_product}
use Rattle.simm_kinds.proofs.batch_faults.multipliers_repeat.Goals as goal

pub returns : goal.returns
returns c =
    IfOk-weaker c.repeats.result _ _
    (λ found is. is ∙ ap (λ same. repeats same c.as_slice.result.now) derived_same_product ∙ ap (repeats same_product) (c.as_slice.ensures.value ∙ c.in_ok-products.ensures))
    c.repeats.ensures
