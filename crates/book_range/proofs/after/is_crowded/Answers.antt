use Rattle.std.proofs.Common.{◌∙◌, ap}
use Rattle.std.specs.Prelude.{is_some}
use Rattle.book_range.specs.Faults.{bucket_fault}
use Rattle.book_range.proofs.after.is_crowded.Goals as goal

pub returns : goal.returns
returns c = λ left w. c.is_some.ensures ∙ ap is_some (c.bucket_fault.ensures ∙ ap bucket_fault (c.len_at_without.ensures left w))
