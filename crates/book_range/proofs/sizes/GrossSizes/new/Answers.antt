use Rattle.std.proofs.Common.{refl}
use Rattle.book_range.specs.Sizes.{sizes_in}
use Rattle.book_range.proofs.sizes.GrossSizes.new.Goals as goal

pub returns : goal.returns
unfolding sizes_in
returns c = λ p. refl
