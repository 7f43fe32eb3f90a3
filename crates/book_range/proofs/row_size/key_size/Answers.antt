use Rattle.std.proofs.Common.{◌≡◌, ◌*ℤ◌, ◌∙◌, FitsSigned, pos, unsigned_abs, rules, sym, ap}
use Rattle.std.specs.Int.{w128}
use Rattle.simm_params.proofs.MhUnits.Integers.{same128}
use Rattle.book_range.specs.Weights.{factor_weight}
use Rattle.book_range.proofs.Placed.{weight_there}
use Rattle.book_range.proofs.row_size.key_size.Goals as goal

pub returns-clause-size : goal.returns-clause-size
returns-clause-size c =
    let p = c.args.params.now in
    let key = c.args.key.now in
    let product_fits : FitsSigned w128 c.weigh_size-size.result = search rules in
    let size_fits : FitsSigned w128 c.abs.result = search rules in
    let amount_fits : FitsSigned w128 c.args.amount.0 = search rules in
    let weight_is : c.weight-weight.result.0 ≡ factor_weight p key.factor = c.weight-weight.ensures.value ∙ c.at.ensures.value key.factor ∙ weight_there p c.of-place.result key (sym c.of-place.ensures) in
    same128 c.weigh_size-size.result product_fits ∙ c.weigh_size-size.ensures.value
    ∙ ap (λ z. z *ℤ c.weight-weight.result.0) (same128 c.abs.result size_fits ∙ c.abs.ensures.value ∙ ap (λ z. pos (unsigned_abs z)) (same128 c.args.amount.0 amount_fits))
    ∙ ap (λ z. pos (unsigned_abs c.args.amount.0) *ℤ z) weight_is
