use Rattle.std.proofs.Common.{◌≡◌, ◌++◌}
use Rattle.std.specs.List.{flat_map}
use Rattle.explain_text.specs.Lines.{net_line}
use Rattle.explain_text.proofs.net_lines.push_nets.Given as goal

-- the text so far and the lines of what is left are those of all
abbrev pub invariant-loop-key : goal.invariant-loop-key
invariant-loop-key l = l.text ++ flat_map net_line l.key-iterator ≡ l.fn.text ++ flat_map net_line l.lent.factors
