use Rattle.std.proofs.Common.{◌∙◌}
use Rattle.book_range.proofs.after.crowded_after.Goals as goal

pub returns : goal.returns
returns c = λ left w few. c.place_fault.ensures left w ∙ c.first_crowded.ensures left w few
