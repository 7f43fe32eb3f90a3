use Rattle.book_range.proofs.Factored.{range_permuted}
use Rattle.book_range.proofs.laws.range_order_is_free.Goals as goal

pub returns : goal.returns
returns c = range_permuted c.args.params.now c.facts.ensures.params
