use Rattle.book_margin.proofs.Untouched.{none_right}
use Rattle.book_margin.proofs.laws.nothing_is_right.Goals as goal

pub returns : goal.returns
returns c = none_right
