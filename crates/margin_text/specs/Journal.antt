-- The journal of a netting set: a line for the set, then each entry with its number from 1. Under an entry's line stand the
-- trades and rows of a submit, or the parts of a margin.
use Rattle.std.specs.Prelude.{ℕ, ◌+◌, List, [], ◌∷◌, ◌++◌, length, codes, decimal}
use Rattle.std.specs.List.{flat_map}
use Rattle.mh_units.specs.Money.{money_text}
use Rattle.simm_kinds.specs.Batch.{rows_of}
use Rattle.csa_terms.specs.Moments.{moment_text}
use Rattle.csa_terms.specs.declared.lot_currency.LotCurrency.{LotCurrency}
use Rattle.csa_terms.specs.declared.lot_currency.LotCurrency.TheVariants as currency
use Rattle.held_cell.specs.declared.entry.Entry.{Entry}
use Rattle.simm_kinds.specs.declared.margin_side.MarginSide.{MarginSide}
use Rattle.simm_kinds.specs.declared.margin_side.MarginSide.TheVariants as margin_side
use Rattle.side_events.specs.declared.side_event.SideEvent.{SideEvent}
use Rattle.side_events.specs.declared.side_event.SideEvent.TheVariants as side
use Rattle.feed_gate.specs.SetCore.declared.event.Event.{Event}
use Rattle.feed_gate.specs.SetCore.declared.event.Event.TheVariants as event
use Rattle.feed_gate.specs.SetCore.declared.reply.Reply.{Reply}
use Rattle.feed_gate.specs.SetCore.declared.reply.Reply.TheVariants as reply
use Rattle.feed_gate.specs.SetCore.Text.{reply_text}
use Rattle.breakdown_text.specs.Margins.{part_lines}
use Rattle.fault_text.specs.Fields.{field, last_field}
use Rattle.margin_text.specs.Rows.{trade_lines}

-- the word of a lot's currency, as in a feed
abbrev pub currency_word : LotCurrency → List ℕ
currency_word currency.Same = codes "same"
currency_word currency.Other = codes "other"

-- as in a feed, without the set; values are amounts of money
abbrev pub side_fields : SideEvent → List ℕ
side_fields (side.PutLot lot class value currency) =
    field (codes "PUT") ++ field lot ++ field class ++ field (money_text value) ++ field (currency_word currency)
side_fields (side.TakeLot lot) = field (codes "TAKE") ++ field lot
side_fields (side.MarkLot lot value) = field (codes "MARK") ++ field lot ++ field (money_text value)
side_fields (side.CloseCall number) = field (codes "CLOSE") ++ field (decimal number)
side_fields side.AskMargin = field (codes "ASK")
side_fields (side.AskCall moment) = field (codes "CALL") ++ field (moment_text moment)

-- behind them, of what the set posts; what it collects has no field
abbrev pub posted_field : MarginSide → List ℕ
posted_field margin_side.Collect = []
posted_field margin_side.Post = field (codes "post")

-- a submit with the numbers of its trades and of their rows; a withdrawal with the number of its names and each of them; tables with the
-- number of bytes of their text
abbrev pub event_fields : Event → List ℕ
event_fields (event.Submit trades) = field (codes "SUBMIT") ++ field (decimal (length trades)) ++ field (decimal (length (rows_of trades)))
event_fields (event.Withdraw names) = field (codes "WITHDRAW") ++ field (decimal (length names)) ++ flat_map field names
event_fields (event.Tables text) = field (codes "TABLES") ++ field (decimal (length text.text))
event_fields (event.OnSide which e) = side_fields e ++ posted_field which

-- the lines of an event under its entry's line
abbrev pub event_lines : Event → List ℕ
event_lines (event.Submit trades) = flat_map trade_lines trades
event_lines (event.Withdraw names) = []
event_lines (event.Tables text) = []
event_lines (event.OnSide which e) = []

-- the lines of a reply under its entry's line
abbrev pub reply_lines : Reply → List ℕ
reply_lines (reply.Margin b) = part_lines b
reply_lines _ = []

-- the entry's number, who called with what, and the reply
abbrev pub entry_line : ℕ → Entry Event Reply → List ℕ
entry_line number e =
    field (decimal number) ++ field (decimal e.caller) ++ event_fields e.event ++ field (codes "=") ++ last_field (reply_text e.reply)

abbrev pub entry_lines : ℕ → Entry Event Reply → List ℕ
entry_lines number e = entry_line number e ++ event_lines e.event ++ reply_lines e.reply

-- the entries in order, numbered from a number on
abbrev pub numbered_lines : ℕ → List (Entry Event Reply) → List ℕ
numbered_lines number [] = []
numbered_lines number (e ∷ log) = entry_lines number e ++ numbered_lines (number + 1) log

abbrev pub journal_text : List ℕ → List (Entry Event Reply) → List ℕ
journal_text name log = field (codes "SET") ++ field name ++ last_field (decimal (length log)) ++ numbered_lines 1 log
