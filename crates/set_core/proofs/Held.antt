-- What the ledger of a side holds after one entry of that side more.
use Rattle.std.proofs.Common.{◌≡◌, ℕ, ◌+◌, arith, List, [], ◌∷◌, ◌++◌, Bool, true, false, ◌||◌, not, cond, map, ℤ, refl, sym, ap, ◌∙◌, append-nil}
use Rattle.std.specs.List.{list_any}
use Rattle.std.proofs.lemmas.List.{map-append}
use Rattle.collateral_ledger.specs.SimmKinds.Order.{same_name}
use Rattle.collateral_ledger.specs.CsaTerms.Terms.{Agreement}
use Rattle.collateral_ledger.specs.SimmKinds.declared.margin_side.MarginSide.{MarginSide}
use Rattle.side_events.specs.declared.side_event.SideEvent.{SideEvent}
use Rattle.held_cell.specs.declared.entry.Entry.{Entry}
use Rattle.held_cell.specs.Entries.{entry}
use Rattle.set_core.specs.declared.event.Event.{Event}
use Rattle.side_events.specs.declared.side_event.SideEvent.TheVariants as side
use Rattle.set_core.specs.declared.event.Event.TheVariants as event
use Rattle.set_core.specs.declared.reply.Reply.{Reply}
use Rattle.set_core.specs.declared.reply.Reply.TheVariants as reply
use Rattle.collateral_ledger.specs.Holdings.{Call}
use Rattle.collateral_ledger.specs.Changes.{has_lot, with_value, without_lot, without_call}
use Rattle.set_core.specs.Events.{if_side}
use Rattle.set_core.specs.Book.{is_accepted}
use Rattle.set_core.specs.Lots.{Lot, lot_of_event, lot_put, lots}
use Rattle.set_core.specs.Calls.{calls_by, made, call_made, outstanding}
use Rattle.set_core.specs.Ledger.{held_lot, holdings, lots_after, calls_closed, calls_added, count_after, holdings_after}
use Rattle.set_core.proofs.Words.{Log}
use Rattle.set_core.proofs.Lots.{changed, changed_by, refused_same, others_same, put_same, lots-push}
use Rattle.set_core.proofs.Calls.{closed, closed_by, refused_open, others_open, closed_without, made-push, outstanding-push}

-- ---- lots

pub has_lot-held : (t : Agreement) (name : List ℕ) (ls : List Lot) → has_lot name (map (held_lot t) ls) ≡ list_any (λ (lot : Lot). same_name name lot.name) ls
has_lot-held t name [] = refl
has_lot-held t name (lot ∷ ls) = ap (λ rest. same_name name lot.name || rest) (has_lot-held t name ls)

taken : (t : Agreement) (on : MarginSide) (name : List ℕ) (ls : List Lot) → map (held_lot t) (changed true (event.OnSide on (side.TakeLot name)) ls) ≡ without_lot name (map (held_lot t) ls)
taken t on name [] = refl
taken t on name (lot ∷ ls) = at (same_name name lot.name) (taken t on name ls)
  where
    at : (same : Bool) → map (held_lot t) (changed true (event.OnSide on (side.TakeLot name)) ls) ≡ without_lot name (map (held_lot t) ls) → map (held_lot t) (cond (same || false) (changed true (event.OnSide on (side.TakeLot name)) ls) (lot ∷ changed true (event.OnSide on (side.TakeLot name)) ls)) ≡ cond (not same) (held_lot t lot ∷ without_lot name (map (held_lot t) ls)) (without_lot name (map (held_lot t) ls))
    at true h = h
    at false h = ap (λ rest. held_lot t lot ∷ rest) h

marked : (t : Agreement) (on : MarginSide) (name : List ℕ) (value : ℤ) (ls : List Lot) → map (held_lot t) (changed true (event.OnSide on (side.MarkLot name value)) ls) ≡ with_value name value (map (held_lot t) ls)
marked t on name value [] = refl
marked t on name value (lot ∷ ls) = at (same_name name lot.name) (marked t on name value ls)
  where
    at : (same : Bool) → map (held_lot t) (changed true (event.OnSide on (side.MarkLot name value)) ls) ≡ with_value name value (map (held_lot t) ls) → held_lot t (record lot { value = cond same value lot.value }) ∷ map (held_lot t) (changed true (event.OnSide on (side.MarkLot name value)) ls) ≡ cond same (record (held_lot t lot) { value = value }) (held_lot t lot) ∷ with_value name value (map (held_lot t) ls)
    at true h = ap (λ rest. record (held_lot t lot) { value = value } ∷ rest) h
    at false h = ap (λ rest. held_lot t lot ∷ rest) h

-- the lots before an event that is accepted have no lot of the name that it puts
abbrev pub IsNew : List Lot → SideEvent → Type 0
IsNew ls (side.PutLot lot class value currency) = list_any (λ (other : Lot). same_name lot other.name) ls ≡ false
IsNew ls _ = Unit {0}

-- lots after an event, by whether it is accepted
abbrev lots_by : List Lot → Event → Bool → List Lot
lots_by ls e accepted = changed accepted e ls ++ cond accepted (if_side lot_of_event [] e) []

nothing_put : (t : Agreement) (ls : List Lot) (e : Event) → ((accepted : Bool) → changed accepted e ls ≡ ls) → if_side lot_of_event [] e ≡ [] → (accepted : Bool) → map (held_lot t) (lots_by ls e accepted) ≡ map (held_lot t) ls
nothing_put t ls e same none true = ap (λ ms. map (held_lot t) (ms ++ if_side lot_of_event [] e)) (same true) ∙ ap (λ new. map (held_lot t) (ls ++ new)) none ∙ ap (map (held_lot t)) (append-nil ls)
nothing_put t ls e same none false = ap (λ ms. map (held_lot t) (ms ++ [])) (same false) ∙ ap (map (held_lot t)) (append-nil ls)

nothing_new : (t : Agreement) (ls : List Lot) (e : Event) → map (held_lot t) (lots_by ls e false) ≡ map (held_lot t) ls
nothing_new t ls e = ap (map (held_lot t)) (append-nil (changed false e ls) ∙ refused_same e ls)

-- by whether the reply is a refusal
lots_at : (t : Agreement) (on : MarginSide) (ls : List Lot) (e : SideEvent) (r : Reply) (accepted : Bool) → is_accepted r ≡ accepted → (accepted ≡ true → IsNew ls e) → map (held_lot t) (lots_by ls (event.OnSide on e) (is_accepted r)) ≡ lots_after t (map (held_lot t) ls) r e
lots_at t on ls (side.PutLot lot class value currency) r true h new =
    let put : Event = event.OnSide on (side.PutLot lot class value currency) in
    let one : List Lot = record { name = lot; class = class; currency = currency; value = value } ∷ [] in
    ap (λ accepted. map (held_lot t) (lots_by ls put accepted)) h
    ∙ ap (λ ms. map (held_lot t) (ms ++ one)) (put_same on lot class value currency ls (new refl))
    ∙ map-append (held_lot t) ls one
    ∙ ap (λ accepted. cond accepted (map (held_lot t) ls ++ map (held_lot t) one) (map (held_lot t) ls)) (sym h)
lots_at t on ls (side.PutLot lot class value currency) r false h new =
    let one : List Lot = record { name = lot; class = class; currency = currency; value = value } ∷ [] in
    ap (λ accepted. map (held_lot t) (lots_by ls (event.OnSide on (side.PutLot lot class value currency)) accepted)) h
    ∙ nothing_new t ls (event.OnSide on (side.PutLot lot class value currency))
    ∙ ap (λ accepted. cond accepted (map (held_lot t) ls ++ map (held_lot t) one) (map (held_lot t) ls)) (sym h)
lots_at t on ls (side.TakeLot lot) r true h new =
    ap (λ accepted. map (held_lot t) (lots_by ls (event.OnSide on (side.TakeLot lot)) accepted)) h
    ∙ ap (map (held_lot t)) (append-nil (changed true (event.OnSide on (side.TakeLot lot)) ls))
    ∙ taken t on lot ls
    ∙ ap (λ accepted. cond accepted (without_lot lot (map (held_lot t) ls)) (map (held_lot t) ls)) (sym h)
lots_at t on ls (side.TakeLot lot) r false h new =
    ap (λ accepted. map (held_lot t) (lots_by ls (event.OnSide on (side.TakeLot lot)) accepted)) h
    ∙ nothing_new t ls (event.OnSide on (side.TakeLot lot))
    ∙ ap (λ accepted. cond accepted (without_lot lot (map (held_lot t) ls)) (map (held_lot t) ls)) (sym h)
lots_at t on ls (side.MarkLot lot value) r true h new =
    ap (λ accepted. map (held_lot t) (lots_by ls (event.OnSide on (side.MarkLot lot value)) accepted)) h
    ∙ ap (map (held_lot t)) (append-nil (changed true (event.OnSide on (side.MarkLot lot value)) ls))
    ∙ marked t on lot value ls
    ∙ ap (λ accepted. cond accepted (with_value lot value (map (held_lot t) ls)) (map (held_lot t) ls)) (sym h)
lots_at t on ls (side.MarkLot lot value) r false h new =
    ap (λ accepted. map (held_lot t) (lots_by ls (event.OnSide on (side.MarkLot lot value)) accepted)) h
    ∙ nothing_new t ls (event.OnSide on (side.MarkLot lot value))
    ∙ ap (λ accepted. cond accepted (with_value lot value (map (held_lot t) ls)) (map (held_lot t) ls)) (sym h)
lots_at t on ls (side.CloseCall number) r accepted h new = nothing_put t ls (event.OnSide on (side.CloseCall number)) (λ a. others_same (event.OnSide on (side.CloseCall number)) (λ name. refl) (λ name value. refl) a ls) refl (is_accepted r)
lots_at t on ls side.AskMargin r accepted h new = nothing_put t ls (event.OnSide on side.AskMargin) (λ a. others_same (event.OnSide on side.AskMargin) (λ name. refl) (λ name value. refl) a ls) refl (is_accepted r)
lots_at t on ls (side.AskCall moment) r accepted h new = nothing_put t ls (event.OnSide on (side.AskCall moment)) (λ a. others_same (event.OnSide on (side.AskCall moment)) (λ name. refl) (λ name value. refl) a ls) refl (is_accepted r)

lots_are : (t : Agreement) (on : MarginSide) (log : Log) (caller : ℕ) (e : SideEvent) (r : Reply) → (is_accepted r ≡ true → IsNew (lots log) e) → map (held_lot t) (lots (log ++ entry caller (event.OnSide on e) r ∷ [])) ≡ lots_after t (map (held_lot t) (lots log)) r e
lots_are t on log caller e r new =
    let it : Entry Event Reply = entry caller (event.OnSide on e) r in
    ap (map (held_lot t)) (lots-push log it ∙ ap (λ ls. ls ++ lot_put it) (changed_by it (lots log)))
    ∙ lots_at t on (lots log) e r (is_accepted r) refl new

-- ---- calls

closed_at : (on : MarginSide) (cs : List Call) (e : SideEvent) (r : Reply) → closed (is_accepted r) (event.OnSide on e) cs ≡ calls_closed cs r e
closed_at on cs (side.CloseCall number) r = at (is_accepted r)
  where
    at : (accepted : Bool) → closed accepted (event.OnSide on (side.CloseCall number)) cs ≡ cond accepted (without_call number cs) cs
    at true = closed_without on number cs
    at false = refused_open (event.OnSide on (side.CloseCall number)) cs
closed_at on cs (side.PutLot lot class value currency) r = others_open (event.OnSide on (side.PutLot lot class value currency)) (λ number. refl) (is_accepted r) cs
closed_at on cs (side.TakeLot lot) r = others_open (event.OnSide on (side.TakeLot lot)) (λ number. refl) (is_accepted r) cs
closed_at on cs (side.MarkLot lot value) r = others_open (event.OnSide on (side.MarkLot lot value)) (λ number. refl) (is_accepted r) cs
closed_at on cs side.AskMargin r = others_open (event.OnSide on side.AskMargin) (λ number. refl) (is_accepted r) cs
closed_at on cs (side.AskCall moment) r = others_open (event.OnSide on (side.AskCall moment)) (λ number. refl) (is_accepted r) cs

added_at : (added : ℕ) (cs : List Call) (r : Reply) → cs ++ call_made (added + 1) r ≡ calls_added added cs r
added_at added cs (reply.Called note) = refl
added_at added cs reply.Accepted = append-nil cs
added_at added cs (reply.Refused why) = append-nil cs
added_at added cs (reply.Margin b) = append-nil cs
added_at added cs (reply.NoCall excess margin booked) = append-nil cs

calls_are : (on : MarginSide) (log : Log) (caller : ℕ) (e : SideEvent) (r : Reply) → outstanding (log ++ entry caller (event.OnSide on e) r ∷ []) ≡ calls_added (made log) (calls_closed (outstanding log) r e) r
calls_are on log caller e r =
    let it : Entry Event Reply = entry caller (event.OnSide on e) r in
    outstanding-push log it
    ∙ ap (λ cs. cs ++ call_made (made log + 1) r) (closed_by it (outstanding log) ∙ closed_at on (outstanding log) e r)
    ∙ added_at (made log) (calls_closed (outstanding log) r e) r

count_at : (added : ℕ) (r : Reply) → added + calls_by r ≡ count_after added r
count_at added (reply.Called note) = refl
count_at added reply.Accepted = omega arith
count_at added (reply.Refused why) = omega arith
count_at added (reply.Margin b) = omega arith
count_at added (reply.NoCall excess margin booked) = omega arith

-- ---- all of it

pub holdings_are : (t : Agreement) (on : MarginSide) (log : Log) (caller : ℕ) (e : SideEvent) (r : Reply) → (is_accepted r ≡ true → IsNew (lots log) e) → holdings_after (holdings t log) e r ≡ holdings t (log ++ entry caller (event.OnSide on e) r ∷ [])
holdings_are t on log caller e r new =
    let it : Entry Event Reply = entry caller (event.OnSide on e) r in
    ap (λ ls. record { terms = t; lots = ls; calls = calls_added (made log) (calls_closed (outstanding log) r e) r; added = count_after (made log) r }) (sym (lots_are t on log caller e r new))
    ∙ ap (λ cs. record { terms = t; lots = map (held_lot t) (lots (log ++ it ∷ [])); calls = cs; added = count_after (made log) r }) (sym (calls_are on log caller e r))
    ∙ ap (λ n. record { terms = t; lots = map (held_lot t) (lots (log ++ it ∷ [])); calls = outstanding (log ++ it ∷ []); added = n }) (sym (made-push log it ∙ count_at (made log) r))
