use Rattle.book_range.proofs.Elsewhere.{elsewhere}
use Rattle.book_range.proofs.laws.elsewhere_few.Goals as goal

pub returns : goal.returns
returns c = elsewhere c.args.params.now
