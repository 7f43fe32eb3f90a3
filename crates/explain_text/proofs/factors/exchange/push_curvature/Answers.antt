use Rattle.std.proofs.Common.{◌∙◌, ap, map, refl, subst, sym}
use Rattle.measured_bucket.specs.SimmKinds.declared.kinds.Measure.TheVariants as measure
use Rattle.measured_bucket.specs.SimmKinds.Order.{pair_cmp}
use Rattle.measured_bucket.specs.SimmRules.ForeignExchange.{fx_sigma, pairs_of, curved_pair}
use Rattle.measured_bucket.specs.Runs.{AreTotals}
use Rattle.measured_bucket.specs.declared.tenor_scale.TenorScale.TheVariants as scale
use Rattle.class_exchange.specs.Pairs.{pair_nets, pair_sums, curved_sum}
use Rattle.class_exchange.specs.Unweighed.{uncurved_pair}
use Rattle.class_exchange.proofs.PairValues.{curvature_is}
use Rattle.explain_text.specs.Factors.{curvature_of_pair}
use Rattle.explain_text.specs.Names.{pair_name}
use Rattle.explain_text.proofs.Weighed.{added}
use Rattle.explain_text.proofs.OverTenors.{pairs_uncurved}
use Rattle.explain_text.proofs.factors.exchange.push_curvature.Goals as goal

pub volatile_pairs-requires-clause-order : goal.volatile_pairs-requires-clause-order
volatile_pairs-requires-clause-order c = c.requires.ascends

pub volatile_pairs-requires-clause-sizes : goal.volatile_pairs-requires-clause-sizes
volatile_pairs-requires-clause-sizes c = c.requires.range.sizes

pub explain-requires : goal.explain-requires
explain-requires c =
    let p = c.args.params.now in
    subst (λ xs. AreTotals pair_cmp scale.Curved (fx_sigma p) (pair_sums xs)) (sym c.as_slice.ensures.value) (c.in_ok-pairs.ensures.ready p c.facts.ensures.params c.requires)

pub returns : goal.returns
returns c =
    let p = c.args.params.now in
    let amounts = pair_nets c.args.lent.now.factors in
    let there = ap pair_sums c.as_slice.ensures.value ∙ c.in_ok-pairs.ensures.sums in
    added measure.Curvature c.args.product _ pair_name
    (curvature_of_pair p amounts) (curved_pair p amounts) (pairs_of amounts) c.in_ok-factors.factors.items
    c.push_factors.result c.as_slice-2.result.now c.args.text.now c.push_factors.new.text _
    c.as_slice-2.ensures.value
    (c.in_ok-factors.ensures.from ∙ ap (map (uncurved_pair p)) there ∙ pairs_uncurved p amounts)
    (c.in_ok-factors.ensures.weighted ∙ ap (map (curved_sum p)) there ∙ curvature_is amounts p)
    refl c.push_factors.ensures
