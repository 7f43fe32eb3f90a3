use Rattle.book_range.proofs.Bounds.{bounded}
use Rattle.book_range.proofs.laws.range_bounds.Goals as goal

pub returns : goal.returns
returns c = λ held none. bounded c.args.params.now held none
