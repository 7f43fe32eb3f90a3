use Rattle.std.proofs.Common.{◌≡◌, ◌++◌, drop}
use Rattle.std.specs.List.{flat_map}
use Rattle.measured_bucket.specs.SimmRules.AddOns.{notional_factor}
use Rattle.class_combine.specs.Notionals.{size_at}
use Rattle.explain_text.specs.Lines.{notional_line}
use Rattle.explain_text.proofs.add_on_lines.push_notionals.Given as goal

-- the text so far and the lines of what is left are those of all
abbrev pub invariant-loop-row : goal.invariant-loop-row
invariant-loop-row l =
    l.text ++ flat_map (notional_line (size_at l.sums.notionals)) (flat_map notional_factor (drop l.row-index l.parameters))
    ≡ l.fn.text ++ flat_map (notional_line (size_at l.sums.notionals)) (flat_map notional_factor l.parameters)
