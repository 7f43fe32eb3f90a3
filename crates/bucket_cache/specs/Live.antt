-- What a live margin holds, and what a batch and a withdrawal make of it.
use Rattle.std.specs.Prelude.{◌≡◌, ℕ, ◌+◌, zero, suc, List, [], ◌∷◌, ◌++◌, map, length, position, slice_get, find, Option, None, Some, option_map, Bool, true, false, not, ◌==◌, if◌then◌else◌}
use Rattle.std.specs.List.{filter, flat_map, list_all, list_any}
use Rattle.book_margin.specs.SimmKinds.declared.row.CrifRow.{CrifRow}
use Rattle.book_margin.specs.SimmKinds.declared.row.TradeRows.{TradeRows}
use Rattle.book_margin.specs.SimmKinds.Batch.{rows_of, factor_names, is_misplaced, is_in_range}
use Rattle.book_margin.specs.SimmKinds.Order.{same_name}
use Rattle.book_margin.specs.SimmKinds.Repeats.{repeats}
use Rattle.book_margin.specs.SimmRules.Params.{Params}
use Rattle.book_margin.specs.SimmRules.Admits.{admits}
use Rattle.book_margin.specs.SimmRules.Range.{range}
use Rattle.book_margin.specs.KeptBuckets.Kept.{Kept}
use Rattle.bucket_cache.specs.declared.place.RowPlace.{RowPlace}

-- the parameters, the current trades with their rows, what is kept of their buckets, and whether nothing has changed since a margin
-- was worked out
pub record Live : Type 0 where
  pub params : Params
  pub book : List TradeRows
  pub kept : Kept
  pub is_fresh : Bool

-- a trade that is there has just its new rows afterwards, in its old place; a new one goes last
abbrev pub put_trade : TradeRows → List TradeRows → List TradeRows
put_trade t [] = t ∷ []
put_trade t (u ∷ us) = if same_name t.trade u.trade then record u { rows = t.rows } ∷ us else u ∷ put_trade t us

-- the trades of a batch, one after the other
abbrev pub put_trades : List TradeRows → List TradeRows → List TradeRows
put_trades [] book = book
put_trades (t ∷ ts) book = put_trades ts (put_trade t book)

-- the trades that none of the names names
abbrev pub without : List (List ℕ) → List TradeRows → List TradeRows
without names book = filter (λ t. not (list_any (same_name t.trade) names)) book

-- those that a name names
abbrev pub named : List (List ℕ) → List TradeRows → List TradeRows
named names book = filter (λ t. list_any (same_name t.trade) names) book

-- the rows that a batch adds, and those that it replaces
abbrev pub rows_moved : List TradeRows → List TradeRows → List CrifRow
rows_moved trades book = rows_of trades ++ rows_of (named (map (λ t. t.trade) trades) book)

abbrev pub is_current : List TradeRows → List ℕ → Bool
is_current book name = list_any (λ t. same_name name t.trade) book

-- the place, from 1, of the first name that is not current
abbrev pub first_unknown : List (List ℕ) → List TradeRows → Option ℕ
first_unknown names book = option_map (λ i. i + 1) (position (λ name. not (is_current book name)) names)

-- the place, from 1, of the first row of a trade that the parameters don't admit
abbrev pub unadmitted_row : Params → List CrifRow → Option ℕ
unadmitted_row p rows = option_map (λ i. i + 1) (position (λ row. not (admits p row)) rows)

-- a row of the trade at this place, or else one of the later trades
abbrev pub row_at : ℕ → Option ℕ → Option RowPlace → Option RowPlace
row_at trade None later = later
row_at trade (Some row) later = Some (record { trade = trade; row = row })

-- where the first trade has this place
abbrev pub unadmitted_from : ℕ → Params → List TradeRows → Option RowPlace
unadmitted_from place p [] = None
unadmitted_from place p (t ∷ ts) = row_at place (unadmitted_row p t.rows) (unadmitted_from (place + 1) p ts)

-- the first row of a batch that the parameters don't admit: its trade's place in the batch, and its place in the trade
abbrev pub first_unadmitted : Params → List TradeRows → Option RowPlace
first_unadmitted p trades = unadmitted_from 1 p trades

-- the name of the trade at a place, from 1
abbrev pub name_at : List TradeRows → ℕ → Option (List ℕ)
name_at book zero = None
name_at book (suc i) = slice_get (map (λ t. t.trade) book) i

-- the rows of a current trade
abbrev pub rows_named : List TradeRows → List ℕ → Option (List CrifRow)
rows_named book name = option_map (λ t. t.rows) (find (λ t. same_name name t.trade) book)

-- none of a trade that is not current
abbrev pub rows_or_none : Option (List CrifRow) → List CrifRow
rows_or_none None = []
rows_or_none (Some rows) = rows

abbrev pub rows_in : List TradeRows → List ℕ → List CrifRow
rows_in book name = rows_or_none (rows_named book name)

-- the trade has one factor of a qualifier at most
abbrev pub has_factors_once : TradeRows → Bool
has_factors_once t = not (repeats same_name (flat_map factor_names t.rows))

-- Trades have different names, parameters stand in the trade without a name alone, each row is admitted and its amount one that a
-- batch can have, each trade has a row, and the book is in range.
pub record IsLive (p : Params) (trades : List TradeRows) : Type 0 where
  pub named : repeats same_name (map (λ t. t.trade) trades) ≡ false
  pub placed : list_all (λ t. not (is_misplaced t)) trades ≡ true
  pub factored : list_all has_factors_once trades ≡ true
  pub amounts : list_all is_in_range (rows_of trades) ≡ true
  pub admitted : list_all (admits p) (rows_of trades) ≡ true
  pub filled : list_all (λ t. not (length t.rows == 0)) trades ≡ true
  pub in_range : range p (rows_of trades) ≡ None
