-- Trades that grow row by row, and an index of their places.
use Rattle.std.specs.Prelude.{◌≡◌, ℕ, suc, List, [], ◌∷◌, ◌++◌, Bool, false, Option, Some, None, option_map, if◌then◌else◌}
use Rattle.std.specs.Map.{lookup}
use Rattle.crif_records.specs.SimmKinds.declared.row.CrifRow.{CrifRow}
use Rattle.crif_records.specs.SimmKinds.declared.row.TradeRows.{TradeRows}
use Rattle.crif_records.specs.SimmKinds.Order.{same_name}
use Rattle.crif_reader.specs.declared.gather.Gathering.{Gathering}
use Rattle.crif_reader.specs.Row.{Entry}

-- one more row: at the end of its trade, or as a new trade behind the others
abbrev pub with_entry : List TradeRows → Entry → List TradeRows
with_entry [] entry = record { trade = entry.trade; rows = entry.row ∷ [] } ∷ []
with_entry (t ∷ ts) entry =
    if same_name entry.trade t.trade then record { trade = t.trade; rows = t.rows ++ entry.row ∷ [] } ∷ ts
    else t ∷ with_entry ts entry

-- the place of the first trade with the name
abbrev pub place_of : List ℕ → List TradeRows → Option ℕ
place_of name [] = None
place_of name (t ∷ ts) = if same_name name t.trade then Some 0 else option_map (λ n. suc n) (place_of name ts)

-- ---- the newest trade stands apart

abbrev pub is_newest : Option (List ℕ) → List ℕ → Bool
is_newest None name = false
is_newest (Some newest) name = same_name name newest

abbrev pub newest_of : Option (List ℕ) → List CrifRow → List TradeRows
newest_of None rows = []
newest_of (Some newest) rows = record { trade = newest; rows = rows } ∷ []

-- behind the others
abbrev pub grown : Gathering → List TradeRows
grown g = g.trades.items ++ newest_of g.newest g.rows.items

-- its name is that of no other, and with no such trade there are no rows
abbrev pub IsApart : List TradeRows → Option (List ℕ) → List CrifRow → Type 0
IsApart trades None rows = rows ≡ []
IsApart trades (Some newest) rows = place_of newest trades ≡ None

-- the place that is noted under a name
abbrev pub noted_at : List (List ℕ × ℕ) → List ℕ → Option ℕ
noted_at places name = lookup (same_name name) places

-- the map has the place of each trade under its name, and no other name
pub record IsIndex (g : Gathering) : Type 0 where
  pub found : (name : List ℕ) → noted_at g.places.entries name ≡ place_of name (grown g)
  pub apart : IsApart g.trades.items g.newest g.rows.items
