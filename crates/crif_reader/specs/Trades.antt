-- Rows gathered by trade.
use Rattle.std.specs.Prelude.{ℕ, List, [], ◌∷◌, map, filter, not}
use Rattle.crif_records.specs.SimmKinds.declared.row.CrifRow.{CrifRow}
use Rattle.crif_records.specs.SimmKinds.declared.row.TradeRows.{TradeRows}
use Rattle.crif_records.specs.SimmKinds.Order.{same_name}
use Rattle.crif_reader.specs.Row.{Entry}

-- the name of each trade once, at the place of its first row
abbrev pub trade_names : List Entry → List (List ℕ)
trade_names [] = []
trade_names (entry ∷ entries) = entry.trade ∷ filter (λ other. not (same_name entry.trade other)) (trade_names entries)

-- the rows of one trade, in the order of the file
abbrev pub rows_under : List ℕ → List Entry → List CrifRow
rows_under trade entries = map (λ e. e.row) (filter (λ e. same_name trade e.trade) entries)

-- the trades, each with its rows
unfoldable pub gathered : List Entry → List TradeRows
gathered entries = map (λ trade. record { trade = trade; rows = rows_under trade entries }) (trade_names entries)
