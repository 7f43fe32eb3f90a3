-- The trades that a map of names to rows holds, and their rows as they are lent.
use Rattle.std.specs.Prelude.{ℕ, List, map, Bool}
use denote.Bor.{Bor}
use Rattle.std.specs.List.{list_any}
use Rattle.book_margin.specs.SimmKinds.declared.row.CrifRow.{CrifRow}
use Rattle.book_margin.specs.SimmKinds.declared.row.TradeRows.{TradeRows}
use Rattle.book_margin.specs.SimmKinds.Order.{same_name}
use Rattle.bucket_cache.specs.declared.lent.LentRows.{LentRows}
use Rattle.bucket_cache.specs.declared.held_rows.HeldTrade.{HeldTrade}

abbrev pub trade_of : List ℕ × List CrifRow → TradeRows
trade_of entry = record { trade = entry.0; rows = entry.1 }

abbrev pub trades_of : List (List ℕ × List CrifRow) → List TradeRows
trades_of entries = map trade_of entries

-- a trade of which the book holds the rows
abbrev pub held_trade : HeldTrade → TradeRows
held_trade held = record { trade = held.trade; rows = held.rows }

abbrev pub held_trades : List HeldTrade → List TradeRows
held_trades held = map held_trade held

-- each trade's rows
abbrev pub row_lists : List TradeRows → List (List CrifRow)
row_lists trades = map (λ t. t.rows) trades

abbrev pub lent_lists : List LentRows → List (List CrifRow)
lent_lists lent = map (λ l. l.rows.now) lent

abbrev pub names_of : List TradeRows → List (List ℕ)
names_of trades = map (λ t. t.trade) trades

-- the name is among those that are lent
abbrev pub is_among : List (Bor (List ℕ)) → List ℕ → Bool
is_among names name = list_any (λ k. same_name name k.now) names

-- the names that are lent
abbrev pub lent_names : List (Bor (List ℕ)) → List (List ℕ)
lent_names names = map (λ k. k.now) names
