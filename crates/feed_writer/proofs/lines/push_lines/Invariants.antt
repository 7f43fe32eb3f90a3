use Rattle.std.proofs.Common.{◌≡◌, ◌++◌, length}
use Rattle.feed_writer.specs.Lines.{lines_text, lines_in}
use Rattle.feed_writer.proofs.lines.push_lines.Given as goal

-- the text so far and the lines that are left to add are the whole
abbrev pub invariant-loop-line : goal.invariant-loop-line
invariant-loop-line l = l.text ++ lines_text (lines_in l.rest) ≡ l.fn.text ++ lines_text (lines_in l.lines)

abbrev pub decreases-loop-line : goal.decreases-loop-line
decreases-loop-line l = length l.rest
