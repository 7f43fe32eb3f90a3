-- What a batch is: the rows of one file, by trade.
use Rattle.std.specs.Prelude.{◌≡◌, ◌^◌, List, [], ◌∷◌, ℕ, length, Option, Some, None, Result, Ok, Err, Bool, true, false, ◌&&◌, ◌||◌, not, ◌==◌, nat_lt, nat_le, ℤ, pos, unsigned_abs, int_le, if◌then◌else◌, map}
use Rattle.std.specs.List.{flat_map, list_any, list_all}
use Rattle.simm_kinds.specs.declared.kinds.ProductClass.{ProductClass}
use Rattle.simm_kinds.specs.declared.row.CrifRow.{CrifRow}
use Rattle.simm_kinds.specs.declared.row.CrifRow.TheVariants as row
use Rattle.simm_kinds.specs.declared.row.TradeRows.{TradeRows}
use Rattle.simm_kinds.specs.declared.fault.MakeFault.{MakeFault}
use Rattle.simm_kinds.specs.declared.fault.MakeFault.TheVariants as fault
pub use Rattle.simm_kinds.specs.Repeats.{repeats}
use Rattle.simm_kinds.specs.Order.{same_name, same_product}

-- all rows of the trades, trade after trade
abbrev pub rows_of : List TradeRows → List CrifRow
rows_of trades = flat_map (λ t. t.rows) trades

-- a parameter of an add-on
abbrev pub is_param : CrifRow → Bool
is_param (row.Sensitivity key amount) = false
is_param (row.Notional qualifier amount) = false
is_param (row.FixedAmount amount) = true
is_param (row.NotionalFactor qualifier factor) = true
is_param (row.Multiplier product factor) = true

-- the qualifier of a factor; none of another row
abbrev pub factor_names : CrifRow → List (List ℕ)
factor_names (row.Sensitivity key amount) = []
factor_names (row.Notional qualifier amount) = []
factor_names (row.FixedAmount amount) = []
factor_names (row.NotionalFactor qualifier factor) = qualifier ∷ []
factor_names (row.Multiplier product factor) = []

-- the product class of a multiplier; none of another row
abbrev pub multiplied : CrifRow → List ProductClass
multiplied (row.Sensitivity key amount) = []
multiplied (row.Notional qualifier amount) = []
multiplied (row.FixedAmount amount) = []
multiplied (row.NotionalFactor qualifier factor) = []
multiplied (row.Multiplier product factor) = product ∷ []

-- two trades of one name, two factors of one qualifier, or two multipliers of one product class; fixed amounts add up
abbrev pub has_repeats : List TradeRows → Bool
has_repeats trades =
    repeats same_name (map (λ t. t.trade) trades)
    || repeats same_name (flat_map factor_names (rows_of trades))
    || repeats same_product (flat_map multiplied (rows_of trades))

-- parameters stand in the trade without a name, and nothing else stands there
abbrev pub is_astray : List ℕ → CrifRow → Bool
is_astray trade r = not (is_param r) && (length trade == 0) || is_param r && not (length trade == 0)

abbrev pub is_misplaced : TradeRows → Bool
is_misplaced t = list_any (λ r. is_astray t.trade r) t.rows

-- at most 10^15 in size
abbrev pub is_amount : ℤ → Bool
is_amount a = nat_le (unsigned_abs a) (10 ^ 15)

-- at most 10^15 cents in size; a multiplier 1 to 10, a factor 0 to 100, in ten-thousandths; a fixed amount not below 0
abbrev pub is_in_range : CrifRow → Bool
is_in_range (row.Sensitivity key amount) = is_amount amount.0
is_in_range (row.Notional qualifier amount) = is_amount amount.0
is_in_range (row.FixedAmount amount) = int_le (pos 0) amount.0 && is_amount amount.0
is_in_range (row.NotionalFactor qualifier factor) = int_le (pos 0) factor.0 && int_le factor.0 (pos 1000000)
is_in_range (row.Multiplier product factor) = int_le (pos 10000) factor.0 && int_le factor.0 (pos 100000)

-- The first fault of trades that are to be a batch, in the order in which they are tested; none for a batch.
abbrev pub batch_fault : List TradeRows → Option MakeFault
batch_fault trades =
    if length trades == 0 then Some fault.Empty
    else if has_repeats trades then Some fault.Same
    else if nat_lt 100000 (length (rows_of trades)) then Some fault.TooManyRows
    else if list_any is_misplaced trades then Some fault.Place
    else if list_any (λ t. length t.rows == 0) trades then Some fault.EmptyTrade
    else if not (list_all is_in_range (rows_of trades)) then Some fault.Amount
    else None

abbrev pub IsBatch : List TradeRows → Type 0
IsBatch trades = batch_fault trades ≡ None

-- What making a batch of trades answers: just these trades, or their first fault. Want of memory alone is free.
abbrev pub MakesBatch : List TradeRows → Result (List TradeRows) MakeFault → Type 0
MakesBatch trades (Ok batch) = (batch ≡ trades) × (batch_fault trades ≡ None)
MakesBatch trades (Err fault.Memory) = Unit {0}
MakesBatch trades (Err f) = batch_fault trades ≡ Some f
