use Rattle.std.proofs.Common.{◌∙◌}
use Rattle.class_margin.specs.NegatedBook.Negated.{negated_factors}
use Rattle.book_margin.proofs.Parts.{measures_are, sum_size, both_are}
use Rattle.book_margin.proofs.class.class_from.Goals as goal

pub posted-requires : goal.posted-requires
posted-requires c = record { values = c.requires; within = c.in_ok-collected.ensures.within }

pub returns : goal.returns
returns c = λ fs book are.
    let collected = c.in_ok-collected.ensures.measures fs book are in
    both_are c.args.params.now fs c.args.product c.args.class (record { collect = c.sum.result; post = c.sum-2.result })
    (record { value = c.sum.ensures ∙ measures_are c.args.params.now fs c.args.product c.args.class c.in_ok-collected.collected collected; size = sum_size c.in_ok-collected.collected c.sum.result.0 c.sum.ensures c.in_ok-collected.ensures.within })
    (record {
      value = c.sum-2.ensures ∙ measures_are c.args.params.now (negated_factors fs) c.args.product c.args.class c.in_ok-posted.posted (c.in_ok-posted.ensures.measures fs book are collected);
      size = sum_size c.in_ok-posted.posted c.sum-2.result.0 c.sum-2.ensures c.in_ok-posted.ensures.within;
    })
