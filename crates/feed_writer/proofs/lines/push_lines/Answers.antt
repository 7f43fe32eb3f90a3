use Rattle.std.proofs.Common.{◌++◌, List, ℕ, sym, ap, ◌∙◌, append-nil}
use Rattle.feed_writer.specs.Lines.{lines_text, lines_in}
use Rattle.feed_writer.proofs.Cuts.{line_added, no_line}
use Rattle.feed_writer.proofs.lines.push_lines.Goals as goal

pub loop-line-preserved : goal.loop-line-preserved
loop-line-preserved c =
    rw c.in_ok-push_line.ensures
    (line_added c.loop-line.text c.loop-line.rest.now c.in-Some.line.now c.in-Some.further.now (c.args.text.now ++ lines_text (lines_in c.args.lines.now)) c.in-Some.ensures.parts c.loop-line.invariant)

pub returns : goal.returns
returns c =
    sym (append-nil c.loop-line.text)
    ∙ (ap (λ (lines : List (List ℕ)). c.loop-line.text ++ lines_text lines) (sym (no_line c.loop-line.rest.now c.in_default.ensures.parts)) ∙ c.loop-line.invariant)
