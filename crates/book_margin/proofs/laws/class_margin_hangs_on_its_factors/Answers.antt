use Rattle.book_margin.proofs.Alone.{margin_same}
use Rattle.book_margin.proofs.laws.class_margin_hangs_on_its_factors.Goals as goal

pub returns : goal.returns
returns c = margin_same
