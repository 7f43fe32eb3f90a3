use Rattle.std.proofs.Common.{◌≡◌, ◌++◌}
use Rattle.std.specs.Iterator.Adapters.{zip_first, zip_second}
use Rattle.std.specs.Slice.Iter.{iter_rest}
use Rattle.margin_whatif.specs.Lines.{without_lines}
use Rattle.margin_whatif.proofs.lines.push_totals.Given as goal

-- the text so far and the lines that are left are all
abbrev pub invariant-loop-name : goal.invariant-loop-name
invariant-loop-name l =
    l.text ++ without_lines (iter_rest (zip_first l.name-iterator)) (iter_rest (zip_second l.name-iterator)) ≡ l.fn.text ++ without_lines l.names l.totals
