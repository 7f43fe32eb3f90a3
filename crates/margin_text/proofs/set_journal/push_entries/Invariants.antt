use Rattle.std.proofs.Common.{◌≡◌, ◌+◌, ◌++◌, drop}
use Rattle.margin_text.specs.Journal.{numbered_lines}
use Rattle.margin_text.proofs.set_journal.push_entries.Given as goal

-- the text so far and what is left to add are the whole
abbrev pub invariant-loop-index : goal.invariant-loop-index
invariant-loop-index l = l.text ++ numbered_lines (l.index + 1) (drop l.index l.set.journal) ≡ l.fn.text ++ numbered_lines 1 l.set.journal
