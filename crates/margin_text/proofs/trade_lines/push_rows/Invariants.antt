use Rattle.std.proofs.Common.{◌≡◌, ◌++◌, drop}
use Rattle.std.specs.List.{flat_map}
use Rattle.margin_text.specs.Rows.{row_line}
use Rattle.margin_text.proofs.trade_lines.push_rows.Given as goal

-- the text so far and what is left to add are the whole
abbrev pub invariant-loop-row : goal.invariant-loop-row
invariant-loop-row l = l.text ++ flat_map row_line (drop l.row-index l.rows) ≡ l.fn.text ++ flat_map row_line l.rows
