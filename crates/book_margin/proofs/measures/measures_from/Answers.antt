use Rattle.book_margin.proofs.Parts.{measures_of}
use Rattle.book_margin.proofs.measures.measures_from.Goals as goal

pub returns-clause-measures : goal.returns-clause-measures
returns-clause-measures c = λ fs book are.
    measures_of c.args.params.now fs c.args.product c.args.class c.in_ok-delta.delta c.in_ok-vega.vega c.in_ok-curvature.curvature c.in_ok-base.base
    (c.in_ok-delta.ensures.value fs book are) (c.in_ok-vega.ensures.value fs book are) (c.in_ok-curvature.ensures.value fs book are) (c.in_ok-base.ensures.value fs book are)

pub returns-clause-within : goal.returns-clause-within
returns-clause-within c = record {
  delta = record { low = c.in_ok-delta.ensures.low; size = c.in_ok-delta.ensures.size };
  vega = record { low = c.in_ok-vega.ensures.low; size = c.in_ok-vega.ensures.size };
  curvature = record { low = c.in_ok-curvature.ensures.low; size = c.in_ok-curvature.ensures.size };
  base = record { low = c.in_ok-base.ensures.low; size = c.in_ok-base.ensures.size };
}
