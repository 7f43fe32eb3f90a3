use Rattle.kept_buckets.specs.SimmKinds.declared.margin_side.MarginSide.TheVariants.{Collect}
use Rattle.book_margin.proofs.margin.margin_counted.Goals as goal

pub margin_over_kept-requires-clause-right : goal.margin_over_kept-requires-clause-right
margin_over_kept-requires-clause-right g c = c.nothing_is_right.ensures c.args.params.now c.args.factors.now c.new-kept.result c.new-kept.ensures.values c.new-kept.ensures.margins

pub returns-clause-value : goal.returns-clause-value
returns-clause-value g c = λ held netted stand. c.in_ok-margins.ensures.value held Collect netted stand

pub returns-clause-total : goal.returns-clause-total
returns-clause-total g c = c.in_ok-margins.ensures.total Collect

pub returns-clause-margins : goal.returns-clause-margins
returns-clause-margins g c = c.in_ok-margins.ensures.margins Collect
