-- The trades of a feed: fifty batches of one trade with four rows, which are drawn one after another.
use Rattle.std.specs.Prelude.{ℕ, zero, suc, ◌%◌, ◌==◌, List, [], ◌∷◌, ◌++◌, codes, decimal, ℤ, pos, ◌-ℤ◌, if◌then◌else◌}
use Rattle.simm_params.specs.SimmKinds.declared.kinds.ProductClass.TheVariants as product
use Rattle.simm_params.specs.SimmKinds.declared.kinds.Tenor.TheVariants as tenor
use Rattle.simm_params.specs.SimmKinds.declared.kinds.SubCurve.TheVariants as sub_curve
use Rattle.simm_params.specs.SimmKinds.declared.factor.Factor.{Factor}
use Rattle.simm_params.specs.SimmKinds.declared.factor.Factor.TheVariants as factor
use Rattle.simm_params.specs.SimmKinds.declared.row.CrifRow.{CrifRow}
use Rattle.simm_params.specs.SimmKinds.declared.row.CrifRow.TheVariants as row
use Rattle.simm_params.specs.SimmKinds.declared.row.TradeRows.{TradeRows}
use Rattle.simm_params.specs.SimmRules.Parts.{cents}
use Rattle.house_sample.specs.Draws.{first_state, next_state, drawn}

-- ---- a row: it draws its currency, and then its amount

-- one of four
abbrev pub currency : ℕ → List ℕ
currency draw =
    if draw % 4 == 0 then codes "EUR"
    else if draw % 4 == 1 then codes "GBP"
    else if draw % 4 == 2 then codes "JPY"
    else codes "BRL"

-- at most 10,000.00 in size
abbrev pub amount : ℕ → ℤ
amount draw = pos (draw % 2000001) -ℤ pos 1000000

-- an exchange rate, or a point of the currency's curve
abbrev pub exchange_rate : List ℕ → Factor
exchange_rate currency = factor.Fx currency

abbrev pub curve_point : List ℕ → Factor
curve_point currency = factor.IrCurve currency tenor.Y10 sub_curve.Ois

-- the row that is drawn from a state
unfoldable pub row_from : (List ℕ → Factor) → ℕ → CrifRow
row_from to x =
    row.Sensitivity (record { product = product.RatesFX; factor = to (currency (drawn (next_state x))) })
    (cents (amount (drawn (next_state (next_state x)))))

-- the state behind a row
unfoldable pub behind_row : ℕ → ℕ
behind_row x = next_state (next_state x)

-- ---- a batch

-- exchange rates and points of curves in turn
unfoldable pub rows_from : ℕ → List CrifRow
rows_from x =
    row_from exchange_rate x
    ∷ row_from curve_point (behind_row x)
    ∷ row_from exchange_rate (behind_row (behind_row x))
    ∷ row_from curve_point (behind_row (behind_row (behind_row x)))
    ∷ []

-- the state behind the four rows of a batch
unfoldable pub behind_batch : ℕ → ℕ
behind_batch x = behind_row (behind_row (behind_row (behind_row x)))

-- the state before the batch of this number, from 0
unfoldable pub state_at : ℕ → ℕ → ℕ → ℕ
state_at seed feed zero = first_state seed feed
state_at seed feed (suc batch) = behind_batch (state_at seed feed batch)

abbrev pub trade_name : ℕ → ℕ → List ℕ
trade_name feed batch = codes "F" ++ decimal feed ++ codes "-" ++ decimal batch

-- each batch has one trade, whose rows are drawn from a state
abbrev pub batch_from : ℕ → ℕ → ℕ → List TradeRows
batch_from feed batch x = record { trade = trade_name feed batch; rows = rows_from x } ∷ []

abbrev pub batch_at : ℕ → ℕ → ℕ → List TradeRows
batch_at seed feed batch = batch_from feed batch (state_at seed feed batch)

-- ---- which set a batch goes to

-- the first with batches of even number, the second with the others
abbrev pub place_of : ℕ → ℕ
place_of batch = batch % 2

-- how many batches a feed has
abbrev pub batches : ℕ
batches = 50

-- the trades that the first batches of a feed bring to the set at a place
unfoldable pub trades_to : ℕ → ℕ → ℕ → ℕ → List TradeRows
trades_to seed feed place zero = []
trades_to seed feed place (suc n) = trades_to seed feed place n ++ (if place_of n == place then batch_at seed feed n else [])

-- the trades that the first feeds bring to it in all
unfoldable pub all_trades : ℕ → ℕ → ℕ → List TradeRows
all_trades seed place zero = []
all_trades seed place (suc feeds) = all_trades seed place feeds ++ trades_to seed feeds place batches
