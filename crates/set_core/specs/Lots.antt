-- The lots of a netting set after a journal: which are there, and what each counts for.
-- (ISDA 2016 Credit Support Annex for Initial Margin: Posted Credit Support, Valuation Percentage, FX Haircut Percentage.)
use Rattle.std.specs.Prelude.{ℕ, List, [], ◌∷◌, ◌++◌, map, Bool, false, ◌&&◌, if◌then◌else◌, ℤ}
use Rattle.std.specs.List.{list_any}
use Rattle.collateral_ledger.specs.SimmKinds.Order.{same_name}
use Rattle.collateral_ledger.specs.CsaTerms.declared.lot_currency.LotCurrency.{LotCurrency}
use Rattle.collateral_ledger.specs.CsaTerms.Terms.{Agreement}
use Rattle.collateral_ledger.specs.Booked.{total, rate_of, counted_at}
use Rattle.side_events.specs.declared.side_event.SideEvent.{SideEvent}
use Rattle.side_events.specs.declared.side_event.SideEvent.TheVariants as side
use Rattle.held_cell.specs.declared.entry.Entry.{Entry}
use Rattle.set_core.specs.declared.event.Event.{Event}
use Rattle.set_core.specs.declared.reply.Reply.{Reply}
use Rattle.set_core.specs.Events.{if_side}
use Rattle.set_core.specs.Book.{is_accepted}

-- a lot of collateral, its value in cents
pub record Lot : Type 0 where
  pub name : List ℕ
  pub class : List ℕ
  pub currency : LotCurrency
  pub value : ℤ

-- the event puts the lot, or takes it
abbrev pub moves : List ℕ → SideEvent → Bool
moves name (side.PutLot lot class value currency) = same_name lot name
moves name (side.TakeLot lot) = same_name lot name
moves name (side.MarkLot lot value) = false
moves name (side.CloseCall number) = false
moves name side.AskMargin = false
moves name (side.AskCall moment) = false

-- an accepted entry that puts the lot, or takes it
abbrev pub is_moved_by : List ℕ → Entry Event Reply → Bool
is_moved_by name e = is_accepted e.reply && if_side (moves name) false e.event

-- the value that an event gives to a lot, or else the one that it had
abbrev pub value_by : List ℕ → ℤ → SideEvent → ℤ
value_by name before (side.PutLot lot class value currency) = if same_name lot name then value else before
value_by name before (side.TakeLot lot) = before
value_by name before (side.MarkLot lot value) = if same_name lot name then value else before
value_by name before (side.CloseCall number) = before
value_by name before side.AskMargin = before
value_by name before (side.AskCall moment) = before

abbrev pub value_with : List ℕ → ℤ → Entry Event Reply → ℤ
value_with name before e = if is_accepted e.reply then if_side (value_by name before) before e.event else before

-- the value that the last accepted entry that puts or marks a lot gives it, or else the one that it had
abbrev pub value_after : List ℕ → ℤ → List (Entry Event Reply) → ℤ
value_after name before [] = before
value_after name before (e ∷ log) = value_after name (value_with name before e) log

abbrev pub lot_of_event : SideEvent → List Lot
lot_of_event (side.PutLot lot class value currency) = record { name = lot; class = class; currency = currency; value = value } ∷ []
lot_of_event (side.TakeLot lot) = []
lot_of_event (side.MarkLot lot value) = []
lot_of_event (side.CloseCall number) = []
lot_of_event side.AskMargin = []
lot_of_event (side.AskCall moment) = []

-- the lot that an accepted entry puts
abbrev pub lot_put : Entry Event Reply → List Lot
lot_put e = if is_accepted e.reply then if_side lot_of_event [] e.event else []

-- a lot that was put stays where no later accepted entry puts or takes it
abbrev pub stays_put : List (Entry Event Reply) → List Lot → List Lot
stays_put after [] = []
stays_put after (lot ∷ lots) =
    if list_any (is_moved_by lot.name) after then stays_put after lots
    else record lot { value = value_after lot.name lot.value after } ∷ stays_put after lots

-- The lots that are there, each put by the last accepted entry that puts or takes it, which gives its class and its
-- currency. Its value is that of the last accepted entry that puts or marks it.
abbrev pub lots : List (Entry Event Reply) → List Lot
lots [] = []
lots (e ∷ after) = stays_put after (lot_put e) ++ lots after

abbrev pub is_there : List (Entry Event Reply) → List ℕ → Bool
is_there log name = list_any (λ (lot : Lot). same_name name lot.name) (lots log)

-- what a lot counts for: its value less the haircut of its class, and less the FX haircut in another currency
abbrev pub counted : Agreement → Lot → ℤ
counted terms lot = counted_at lot.value (rate_of terms lot.class lot.currency)

-- what all lots count for
abbrev pub lots_counted : Agreement → List (Entry Event Reply) → ℤ
lots_counted terms log = total (map (counted terms) (lots log))
