use Rattle.book_margin.proofs.Parts.{posted_are}
use Rattle.book_margin.proofs.measures.posted.Goals as goal

pub returns-clause-measures : goal.returns-clause-measures
returns-clause-measures c = λ fs book are its.
    posted_are c.args.params.now fs c.args.product c.args.class c.args.measures c.in_ok-curvature.curvature (c.delta_and_vega_are_even.ensures.delta c.args.params.now) (c.delta_and_vega_are_even.ensures.vega c.args.params.now)
    (c.base_correlation_is_even.ensures.margin c.args.params.now) its (c.in_ok-curvature.ensures.value fs book are)

pub returns-clause-within : goal.returns-clause-within
returns-clause-within c = record {
  delta = c.requires.within.delta;
  vega = c.requires.within.vega;
  curvature = record { low = c.in_ok-curvature.ensures.low; size = c.in_ok-curvature.ensures.size };
  base = c.requires.within.base;
}
