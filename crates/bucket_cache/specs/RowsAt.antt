-- The rows of a trade of a batch, by its place.
use Rattle.std.specs.Prelude.{ℕ, zero, suc, List, [], ◌∷◌}
use Rattle.book_margin.specs.SimmKinds.declared.row.CrifRow.{CrifRow}
use Rattle.book_margin.specs.SimmKinds.declared.row.TradeRows.{TradeRows}

-- the rows of the trade at a place, from 0; none behind the last
abbrev pub rows_at : List TradeRows → ℕ → List CrifRow
rows_at [] i = []
rows_at (t ∷ ts) zero = t.rows
rows_at (t ∷ ts) (suc i) = rows_at ts i
