use Rattle.std.proofs.Common.{None, ◌++◌, ◌∙◌, append-nil, ap, refl, sym}
use Rattle.std.proofs.lemmas.Slice.Zip.{either_empty_from_Zip}
use Rattle.margin_whatif.proofs.Asking.{no_line_left}
use Rattle.margin_whatif.proofs.lines.push_totals.Goals as goal

pub returns : goal.returns
returns c =
    sym (append-nil c.loop-name.text)
    ∙ ap (λ lines. c.loop-name.text ++ lines) (sym (no_line_left _ _ (either_empty_from_Zip c.loop-name.name-iterator c.next.new.self None refl c.in-None.ensures.steps)))
    ∙ c.loop-name.invariant
