use Rattle.std.proofs.Common.{◌≡◌, ◌++◌, drop}
use Rattle.std.specs.List.{flat_map}
use Rattle.margin_text.specs.Rows.{trade_lines}
use Rattle.margin_text.proofs.trade_lines.push_trades.Given as goal

-- the text so far and what is left to add are the whole
abbrev pub invariant-loop-trade : goal.invariant-loop-trade
invariant-loop-trade l = l.text ++ flat_map trade_lines (drop l.trade-index l.trades) ≡ l.fn.text ++ flat_map trade_lines l.trades
