-- The book of a netting set after a journal: which trades are current, and which rows each has.
-- Replacement by trade is this service's own rule.
use Rattle.std.specs.Prelude.{ℕ, List, [], ◌∷◌, ◌++◌, Bool, true, false, ◌&&◌, not, if◌then◌else◌, map}
use Rattle.std.specs.List.{filter, list_any}
use Rattle.collateral_ledger.specs.SimmKinds.declared.row.CrifRow.{CrifRow}
use Rattle.collateral_ledger.specs.SimmKinds.declared.row.TradeRows.{TradeRows}
use Rattle.collateral_ledger.specs.SimmKinds.Order.{same_name}
use Rattle.held_cell.specs.declared.entry.Entry.{Entry}
use Rattle.set_core.specs.declared.event.Event.{Event}
use Rattle.set_core.specs.declared.event.Event.TheVariants as event
use Rattle.set_core.specs.declared.reply.Reply.{Reply}
use Rattle.set_core.specs.declared.reply.Reply.TheVariants as reply

-- what an entry says of a trade: the rows that it has from then on, that it is taken out, or nothing
pub data Word : Type 0 where
  Given : List CrifRow → Word
  Taken : Word
  Silent : Word

abbrev pub word_of_batch : List ℕ → List TradeRows → Word
word_of_batch name [] = Silent
word_of_batch name (t ∷ trades) = if same_name name t.trade then Given t.rows else word_of_batch name trades

abbrev pub is_named : List (List ℕ) → List ℕ → Bool
is_named names name = list_any (same_name name) names

abbrev pub word_of_event : List ℕ → Event → Word
word_of_event name (event.Submit trades) = word_of_batch name trades
word_of_event name (event.Withdraw names) = if is_named names name then Taken else Silent
word_of_event name (event.Tables text) = Silent
word_of_event name (event.OnSide on e) = Silent

-- an entry is accepted where its reply is no refusal; a question that is answered is accepted too
abbrev pub is_accepted : Reply → Bool
is_accepted (reply.Refused _) = false
is_accepted _ = true

-- a refused entry says nothing
abbrev pub word : List ℕ → Entry Event Reply → Word
word name e = if is_accepted e.reply then word_of_event name e.event else Silent

abbrev pub then_said : Word → Word → Word
then_said earlier Silent = earlier
then_said earlier later = later

-- what the last accepted entry that names a trade says of it
abbrev pub last_word : List ℕ → List (Entry Event Reply) → Word
last_word name [] = Silent
last_word name (e ∷ log) = then_said (word name e) (last_word name log)

abbrev pub is_given : Word → Bool
is_given (Given _) = true
is_given _ = false

abbrev pub is_taken : Word → Bool
is_taken Taken = true
is_taken _ = false

abbrev pub rows_given : Word → List CrifRow
rows_given (Given rows) = rows
rows_given _ = []

-- a trade is current where the last accepted entry that names it is a submit, and has the rows of that submit
abbrev pub is_current : List (Entry Event Reply) → List ℕ → Bool
is_current log name = is_given (last_word name log)

abbrev pub with_rows_after : List (Entry Event Reply) → TradeRows → TradeRows
with_rows_after log t = record { trade = t.trade; rows = rows_given (last_word t.trade log) }

-- the trades of a submit that was accepted
abbrev pub trades_of_event : Event → List TradeRows
trades_of_event (event.Submit trades) = trades
trades_of_event (event.Withdraw names) = []
trades_of_event (event.Tables text) = []
trades_of_event (event.OnSide on e) = []

abbrev pub accepted_trades : Entry Event Reply → List TradeRows
accepted_trades e = if is_accepted e.reply then trades_of_event e.event else []

abbrev pub is_withdrawn : List (Entry Event Reply) → List ℕ → Bool
is_withdrawn log name = list_any (λ e. is_taken (word name e)) log

-- the trades whose place in the book is that of an entry: those that it submits, that weren't current before, and that
-- no entry after it withdraws
abbrev pub starts_at : List (Entry Event Reply) → Entry Event Reply → List (Entry Event Reply) → List TradeRows
starts_at before e after = filter (λ t. not (is_current before t.trade) && not (is_withdrawn after t.trade)) (accepted_trades e)

abbrev pub starts : List (Entry Event Reply) → List (Entry Event Reply) → List TradeRows
starts before [] = []
starts before (e ∷ after) = starts_at before e after ++ starts (before ++ e ∷ []) after

-- The current trades with their rows, in the order of the first accepted submit that named them since they were last
-- withdrawn, and inside a batch in its order.
abbrev pub book : List (Entry Event Reply) → List TradeRows
book log = map (with_rows_after log) (starts [] log)
