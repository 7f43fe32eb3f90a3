use Rattle.std.proofs.Common.{◌≡◌, ◌*ℤ◌, ◌∙◌, FitsSigned, rules, ap}
use Rattle.std.specs.Int.{w128}
use Rattle.simm_params.proofs.MhUnits.Integers.{same128}
use Rattle.factor_book.specs.declared.place.Place.{Place}
use Rattle.book_range.specs.Weighing.{weight_at}
use Rattle.book_range.proofs.Grosses.{summed_next}
use Rattle.book_range.proofs.gross.place_size.Goals as goal

pub loop-key-preserved : goal.loop-key-preserved
loop-key-preserved c =
    let place = c.args.lent.now.place in
    let key = c.in-Some.key.now in
    let size = c.in-Some.holding.now.size in
    let fits : FitsSigned w128 c.weigh_size-total.result = search rules in
    let size_fits : FitsSigned w128 size = search rules in
    let is : c.weigh_size-total.result ≡ size *ℤ weight_at c.args.params.now place.stand key.factor =
    c.weigh_size-total.ensures.value ∙ ap (λ z. z *ℤ c.weight.result.0) (same128 size size_fits) ∙ ap (λ w. size *ℤ w) (c.weight.ensures.value ∙ c.at-weighing.ensures.value key.factor ∙ ap (λ (q : Place). weight_at c.args.params.now q.stand key.factor) c.place.ensures) in
    summed_next c.args.params.now place c.args.lent.now.factors c.loop-key.key-iterator c.next.new.self (key, c.in-Some.holding.now) _ c.weigh_size-total.result
    c.requires.few c.loop-key.invariant c.in-Some.ensures.steps fits is c.weigh_size-total.ensures.bound
