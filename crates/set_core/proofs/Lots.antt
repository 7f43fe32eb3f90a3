-- The lots after one entry more.
use Rattle.std.proofs.Common.{◌≡◌, ℕ, List, [], ◌∷◌, ◌++◌, Bool, true, false, ◌&&◌, ◌||◌, cond, ℤ, refl, sym, ap, ◌∙◌, append_assoc, append-nil}
use Rattle.std.specs.List.{list_any}
use Rattle.std.proofs.lemmas.Bool.{or_parts}
use Rattle.std.proofs.lemmas.List.Folds.{list_any-append}
use Rattle.collateral_ledger.specs.SimmKinds.Order.{same_name}
use Rattle.collateral_ledger.specs.SimmKinds.declared.margin_side.MarginSide.{MarginSide}
use Rattle.held_cell.specs.declared.entry.Entry.{Entry}
use Rattle.collateral_ledger.specs.CsaTerms.declared.lot_currency.LotCurrency.{LotCurrency}
use Rattle.set_core.specs.declared.event.Event.{Event}
use Rattle.side_events.specs.declared.side_event.SideEvent.TheVariants as side
use Rattle.set_core.specs.declared.event.Event.TheVariants as event
use Rattle.set_core.specs.declared.reply.Reply.{Reply}
use Rattle.set_core.specs.Events.{if_side}
use Rattle.set_core.specs.Book.{is_accepted}
use Rattle.set_core.specs.Lots.{Lot, moves, is_moved_by, value_by, value_with, value_after, lot_put, stays_put, lots}
use Rattle.set_core.proofs.Words.{Log}

-- a lot after entries, and the others
abbrev at_last : Log → Lot → Bool → List Lot → List Lot
at_last after lot moved others = cond moved others (record lot { value = value_after lot.name lot.value after } ∷ others)

pub stays_put-none : (ls : List Lot) → stays_put [] ls ≡ ls
stays_put-none [] = refl
stays_put-none (lot ∷ ls) = ap (λ others. lot ∷ others) (stays_put-none ls)

stays_put-append : (after : Log) (ls others : List Lot) → stays_put after (ls ++ others) ≡ stays_put after ls ++ stays_put after others
stays_put-append after [] others = refl
stays_put-append after (lot ∷ ls) others = at (list_any (is_moved_by lot.name) after) (stays_put-append after ls others)
  where
    at : (moved : Bool) → stays_put after (ls ++ others) ≡ stays_put after ls ++ stays_put after others → at_last after lot moved (stays_put after (ls ++ others)) ≡ at_last after lot moved (stays_put after ls) ++ stays_put after others
    at true h = h
    at false h = ap (λ rest. record lot { value = value_after lot.name lot.value after } ∷ rest) h

value_after-append : (name : List ℕ) (value : ℤ) (log after : Log) → value_after name value (log ++ after) ≡ value_after name (value_after name value log) after
value_after-append name value [] after = refl
value_after-append name value (e ∷ log) after = value_after-append name (value_with name value e) log after

-- entries and then others
stays_put-both : (log after : Log) (ls : List Lot) → stays_put (log ++ after) ls ≡ stays_put after (stays_put log ls)
stays_put-both log after [] = refl
stays_put-both log after (lot ∷ ls) =
    ap (λ moved. at_last (log ++ after) lot moved (stays_put (log ++ after) ls)) (list_any-append (is_moved_by lot.name) log after)
    ∙ at (list_any (is_moved_by lot.name) log) (list_any (is_moved_by lot.name) after) refl (stays_put-both log after ls)
  where
    at : (before later : Bool) → list_any (is_moved_by lot.name) after ≡ later → stays_put (log ++ after) ls ≡ stays_put after (stays_put log ls) → at_last (log ++ after) lot (before || later) (stays_put (log ++ after) ls) ≡ stays_put after (at_last log lot before (stays_put log ls))
    at true later e h = h
    at false true e h = h ∙ ap (λ moved. at_last after (record lot { value = value_after lot.name lot.value log }) moved (stays_put after (stays_put log ls))) (sym e)
    at false false e h =
        ap (λ rest. record lot { value = value_after lot.name lot.value (log ++ after) } ∷ rest) h
        ∙ ap (λ value. record lot { value = value } ∷ stays_put after (stays_put log ls)) (value_after-append lot.name lot.value log after)
        ∙ ap (λ moved. at_last after (record lot { value = value_after lot.name lot.value log }) moved (stays_put after (stays_put log ls))) (sym e)

-- what an entry leaves of the lots, and the lot that it puts
abbrev pub lots_with : Entry Event Reply → List Lot → List Lot
lots_with e ls = stays_put (e ∷ []) ls ++ lot_put e

pub lots-push : (log : Log) (e : Entry Event Reply) → lots (log ++ e ∷ []) ≡ lots_with e (lots log)
lots-push [] e = append-nil (stays_put [] (lot_put e)) ∙ stays_put-none (lot_put e)
lots-push (x ∷ log) e =
    ap (λ ls. ls ++ lots (log ++ e ∷ [])) (stays_put-both log (e ∷ []) (lot_put x))
    ∙ ap (λ ls. stays_put (e ∷ []) (stays_put log (lot_put x)) ++ ls) (lots-push log e)
    ∙ sym (append_assoc (stays_put (e ∷ []) (stays_put log (lot_put x))) (stays_put (e ∷ []) (lots log)) (lot_put e))
    ∙ ap (λ ls. ls ++ lot_put e) (sym (stays_put-append (e ∷ []) (stays_put log (lot_put x)) (lots log)))

-- ---- one entry

-- the same by whether the entry is accepted
abbrev pub changed : Bool → Event → List Lot → List Lot
changed accepted e [] = []
changed accepted e (lot ∷ ls) =
    cond ((accepted && if_side (moves lot.name) false e) || false) (changed accepted e ls)
    (record lot { value = cond accepted (if_side (value_by lot.name lot.value) lot.value e) lot.value } ∷ changed accepted e ls)

pub changed_by : (e : Entry Event Reply) (ls : List Lot) → stays_put (e ∷ []) ls ≡ changed (is_accepted e.reply) e.event ls
changed_by e [] = refl
changed_by e (lot ∷ ls) = ap (at_last (e ∷ []) lot (list_any (is_moved_by lot.name) (e ∷ []))) (changed_by e ls)

pub refused_same : (e : Event) (ls : List Lot) → changed false e ls ≡ ls
refused_same e [] = refl
refused_same e (lot ∷ ls) = ap (λ others. lot ∷ others) (refused_same e ls)

-- an event that puts, takes and marks no lot
pub others_same : (e : Event) → ((name : List ℕ) → if_side (moves name) false e ≡ false) → ((name : List ℕ) (value : ℤ) → if_side (value_by name value) value e ≡ value) → (accepted : Bool) (ls : List Lot) → changed accepted e ls ≡ ls
others_same e still stays false ls = refused_same e ls
others_same e still stays true [] = refl
others_same e still stays true (lot ∷ ls) =
    ap (λ moved. cond (moved || false) (changed true e ls) (record lot { value = if_side (value_by lot.name lot.value) lot.value e } ∷ changed true e ls)) (still lot.name)
    ∙ ap (λ value. record lot { value = value } ∷ changed true e ls) (stays lot.name lot.value)
    ∙ ap (λ others. lot ∷ others) (others_same e still stays true ls)

-- a lot that is new
pub put_same : (on : MarginSide) (name class : List ℕ) (value : ℤ) (currency : LotCurrency) (ls : List Lot) → list_any (λ (lot : Lot). same_name name lot.name) ls ≡ false → changed true (event.OnSide on (side.PutLot name class value currency)) ls ≡ ls
put_same on name class value currency [] h = refl
put_same on name class value currency (lot ∷ ls) h =
    let parts = or_parts (same_name name lot.name) (list_any (λ (other : Lot). same_name name other.name) ls) h in
    ap (λ same. cond (same || false) (changed true (event.OnSide on (side.PutLot name class value currency)) ls) (record lot { value = cond same value lot.value } ∷ changed true (event.OnSide on (side.PutLot name class value currency)) ls)) parts.0
    ∙ ap (λ others. lot ∷ others) (put_same on name class value currency ls parts.1)
