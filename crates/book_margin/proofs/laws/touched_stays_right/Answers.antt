use Rattle.book_margin.proofs.Untouched.{still_right}
use Rattle.book_margin.proofs.laws.touched_stays_right.Goals as goal

pub returns : goal.returns
returns c = λ p rows f g old new right same forgets. still_right p rows f g old new right same forgets (c.class_margin_hangs_on_its_factors.ensures p)
