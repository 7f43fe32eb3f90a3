use Rattle.book_margin.proofs.Renewed.{cached_right}
use Rattle.book_margin.proofs.laws.kept_values_are_from_scratch.Goals as goal

pub returns : goal.returns
returns c = λ p f kept right place measure. cached_right p f place kept right measure
