-- When a journal is full: 65,535 entries, or 500,000 rows of all submits, refused ones too; tables weigh as 10,000 rows.
use Rattle.std.specs.Prelude.{◌≡◌, ℕ, ◌+◌, List, length, Bool, true, ◌||◌, nat_le, nat_lt, sum_by}
use Rattle.collateral_ledger.specs.SimmKinds.Batch.{rows_of}
use Rattle.held_cell.specs.declared.entry.Entry.{Entry}
use Rattle.set_core.specs.declared.event.Event.{Event}
use Rattle.set_core.specs.declared.event.Event.TheVariants as event
use Rattle.set_core.specs.declared.reply.Reply.{Reply}

abbrev pub event_rows : Event → ℕ
event_rows (event.Submit trades) = length (rows_of trades)
event_rows (event.Withdraw names) = 0
event_rows (event.Tables text) = 10000
event_rows (event.OnSide on e) = 0

abbrev pub journal_rows : List (Entry Event Reply) → ℕ
journal_rows log = sum_by (λ e. event_rows e.event) log

-- no event of so many rows has room
abbrev pub is_full_for : List (Entry Event Reply) → ℕ → Bool
is_full_for log rows = nat_le 65535 (length log) || nat_lt 500000 (journal_rows log + rows)

abbrev pub is_full : List (Entry Event Reply) → Event → Bool
is_full log event = is_full_for log (event_rows event)

abbrev pub IsFull : List (Entry Event Reply) → Event → Type 0
IsFull log event = is_full log event ≡ true
