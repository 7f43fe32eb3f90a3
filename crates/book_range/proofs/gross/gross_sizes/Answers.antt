use Rattle.book_range.specs.Sizes.{sizes_in}
use Rattle.book_range.proofs.gross.gross_sizes.Goals as goal

pub returns : goal.returns
unfolding sizes_in
returns c = λ i. record { delta = c.side_sizes.ensures i; volatility = c.side_sizes-2.ensures i }
