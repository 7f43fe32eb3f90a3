-- What a set keeps is kept by one event more.
use mathlib.Core.Path.{fun_ext}
use Rattle.std.proofs.Common.{◌≡◌, ℕ, ◌+◌, ◌≤◌, ◌<◌, arith, List, [], ◌∷◌, ◌++◌, length, Bool, true, false, not, cond, map, ℤ, ◌+ℤ◌, is_some, option_map, position, Option, Some, None, refl, sym, ap, ◌∙◌, subst, nat_le, nat_lt}
use Rattle.std.proofs.lemmas.Bool.{true≢false, or_parts, leb-false, ltb-false}
use Rattle.std.proofs.lemmas.List.{length-append, length-map}
use Rattle.std.proofs.lemmas.List.Sums.{sum_by-append}
use Rattle.collateral_ledger.specs.SimmKinds.declared.margin_side.MarginSide.{MarginSide}
use Rattle.collateral_ledger.specs.SimmKinds.declared.row.TradeRows.{TradeRows}
use Rattle.collateral_ledger.specs.SimmKinds.Batch.{IsBatch, rows_of}
use Rattle.bucket_cache.specs.SimmRules.declared.values.RangeFault.{RangeFault}
use Rattle.bucket_cache.specs.SimmRules.Params.{Params}
use Rattle.bucket_cache.specs.SimmRules.Range.{range}
use Rattle.bucket_cache.specs.SimmRules.Simm.{simm}
use Rattle.bucket_cache.specs.BookMargin.NegatedBook.Sides.{side_rows}
use Rattle.held_cell.specs.Entries.{entry}
use Rattle.bucket_cache.specs.declared.place.RowPlace.{RowPlace}
use Rattle.bucket_cache.specs.Live.{first_unadmitted}
use Rattle.collateral_ledger.specs.CsaTerms.Terms.{Agreement, Agreements, IsOneSet, haircut_of}
use Rattle.collateral_ledger.specs.declared.fault.LedgerFault.TheVariants as fault
use Rattle.collateral_ledger.specs.Booked.{total, booked_of, settled, counted as counted_held}
use Rattle.collateral_ledger.specs.Refusals.{put_refusal, is_lot_value, is_full as is_full_of}
use Rattle.params_file.specs.Texts.{ParamText}
use Rattle.set_core.specs.declared.event.Event.{Event}
use Rattle.set_core.specs.declared.ledgers.Ledgers.{Ledgers}
use Rattle.side_events.specs.declared.side_event.SideEvent.{SideEvent}
use Rattle.side_events.specs.declared.side_event.SideEvent.TheVariants as side
use Rattle.set_core.specs.declared.event.Event.TheVariants as event
use Rattle.set_core.specs.declared.reply.Reply.{Reply}
use Rattle.set_core.specs.declared.reply.Reply.TheVariants as reply
use Rattle.set_core.specs.declared.refusal.Refusal.{Refusal}
use Rattle.set_core.specs.declared.refusal.Refusal.TheVariants as refusal
use Rattle.set_core.specs.Book.{Silent, word_of_event, is_accepted, trades_of_event, accepted_trades, starts, book, with_rows_after}
use Rattle.set_core.specs.Lots.{lots, is_there}
use Rattle.set_core.specs.Calls.{made, outstanding, is_outstanding, booked}
use Rattle.set_core.specs.Sides.{terms_on, entries_of}
use Rattle.set_core.specs.Tables.{tables_with, tables}
use Rattle.set_core.specs.Answer.{first_unknown, if_admitted, if_known, if_put, if_taken, if_closed, if_calling_day, answer_side, answer_by, answer, IsLegal}
use Rattle.set_core.specs.Events.{IsEvent}
use Rattle.set_core.specs.Room.{event_rows, journal_rows, is_full}
use Rattle.set_core.specs.Ledger.{held_lot, holdings, ledger_on, ledgers, ledgers_after, terms_of, ledger_reply}
use Rattle.set_core.specs.Live.{Traded, side_reply, live_reply, live_book, live_params, Does}
use Rattle.set_core.specs.Kept.{AreDifferent, IsKept}
use Rattle.set_core.proofs.Words.{Log}
use Rattle.set_core.proofs.Puts.{different-map, map-map}
use Rattle.set_core.proofs.Calls.{made_few}
use Rattle.set_core.proofs.Held.{IsNew, has_lot-held}
use Rattle.set_core.proofs.Sides.{held_on, terms_stay, few_entries, IsNewThere, ledgers_are}
use Rattle.set_core.proofs.Books.{in_book, starts_different, book-silent, book-withdrawn, book-submitted}
use Rattle.set_core.proofs.Legal.{legal-push}
use Rattle.set_core.proofs.Tables.{tables-push}
use Rattle.set_core.proofs.Batches.{different_trades}

book_different : (log : Log) → AreDifferent (starts [] log) → AreDifferent (book log)
book_different log d = different-map (with_rows_after log) (λ t. refl) (starts [] log) d

-- ---- the reply is the answer

put_answer : (there known in_range full : Bool) (value : ℤ) → ledger_reply (cond there (Some fault.LotKnown) (cond (not known) (Some fault.ClassUnknown) (cond (not in_range) (Some (fault.LotRange value)) (cond full (Some (fault.LotsFull 4096)) None)))) ≡ cond there (reply.Refused refusal.LotKnown) (cond (not known) (reply.Refused refusal.ClassUnknown) (cond (not in_range) (reply.Refused (refusal.LotRange value)) (cond full (reply.Refused (refusal.LotsFull 4096)) reply.Accepted)))
put_answer true known in_range full value = refl
put_answer false false in_range full value = refl
put_answer false true false full value = refl
put_answer false true true true value = refl
put_answer false true true false value = refl

put_is : (t : Agreement) (log : Log) (lot class : List ℕ) (value : ℤ) → ledger_reply (put_refusal (holdings t log) lot class value) ≡ if_put t log lot class value
put_is t log lot class value =
    ap (λ there. ledger_reply (cond there (Some fault.LotKnown) (cond (not (is_some (haircut_of t class))) (Some fault.ClassUnknown) (cond (not (is_lot_value value)) (Some (fault.LotRange value)) (cond (is_full_of (map (held_lot t) (lots log))) (Some (fault.LotsFull 4096)) None))))) (has_lot-held t lot (lots log))
    ∙ ap (λ n. ledger_reply (cond (is_there log lot) (Some fault.LotKnown) (cond (not (is_some (haircut_of t class))) (Some fault.ClassUnknown) (cond (not (is_lot_value value)) (Some (fault.LotRange value)) (cond (nat_le 4096 n) (Some (fault.LotsFull 4096)) None))))) (length-map (lots log) (held_lot t))
    ∙ put_answer (is_there log lot) (is_some (haircut_of t class)) (is_lot_value value) (nat_le 4096 (length (lots log))) value

take_answer : (there : Bool) → ledger_reply (cond there None (Some fault.LotUnknown)) ≡ if_taken there
take_answer true = refl
take_answer false = refl

mark_answer : (there in_range : Bool) (value : ℤ) → ledger_reply (cond (not there) (Some fault.LotUnknown) (cond (not in_range) (Some (fault.LotRange value)) None)) ≡ cond (not there) (reply.Refused refusal.LotUnknown) (cond (not in_range) (reply.Refused (refusal.LotRange value)) reply.Accepted)
mark_answer false in_range value = refl
mark_answer true false value = refl
mark_answer true true value = refl

close_answer : (open_call : Bool) → ledger_reply (cond open_call None (Some fault.CallUnknown)) ≡ if_closed open_call
close_answer true = refl
close_answer false = refl

booked_is : (t : Agreement) (log : Log) → booked_of (holdings t log) ≡ booked t log
booked_is t log = ap (λ values. total values +ℤ total (map settled (outstanding log))) (map-map (held_lot t) counted_held (lots log))

side_answer_is : (q : Params) (t : Agreement) (on : MarginSide) (log own : Log) (e : SideEvent) → side_reply (record { params = q; book = book log }) (holdings t own) on e ≡ answer_side q t on log own e
side_answer_is q t on log own (side.PutLot lot class value currency) = put_is t own lot class value
side_answer_is q t on log own (side.TakeLot lot) = ap (λ there. ledger_reply (cond there None (Some fault.LotUnknown))) (has_lot-held t lot (lots own)) ∙ take_answer (is_there own lot)
side_answer_is q t on log own (side.MarkLot lot value) =
    ap (λ there. ledger_reply (cond (not there) (Some fault.LotUnknown) (cond (not (is_lot_value value)) (Some (fault.LotRange value)) None))) (has_lot-held t lot (lots own))
    ∙ mark_answer (is_there own lot) (is_lot_value value) value
side_answer_is q t on log own (side.CloseCall number) = close_answer (is_outstanding own number)
side_answer_is q t on log own side.AskMargin = refl
side_answer_is q t on log own (side.AskCall moment) = ap (λ booked. if_calling_day t (made own) (simm q (side_rows on (rows_of (book log)))).total.0 booked moment) (booked_is t own)

pub answer_is : (p : Params) (both : Agreements) (log : Log) (e : Event) → AreDifferent (starts [] log) → IsEvent e → live_reply (record { params = p; book = book log }) (ledgers both log) e ≡ answer_by p both log e
answer_is p both log (event.Submit batch) d is =
    ap (λ trades. if_admitted (first_unadmitted p batch) (range p (rows_of trades))) (sym (book-submitted log 0 batch (different_trades batch is) (book_different log d)))
answer_is p both log (event.Withdraw names) d is =
    ap (λ test. if_known (option_map (λ i. i + 1) (position test names))) (fun_ext (λ name. ap not (in_book log name)))
answer_is p both log (event.Tables text) d is = refl
answer_is p both log (event.OnSide on e) d is =
    ap (λ held. side_reply (record { params = p; book = book log }) held on e) (held_on on both log)
    ∙ side_answer_is p (terms_on on both) on log (entries_of on log) e

-- a lot that is put is new on its side
put_new : (there : Bool) (rest : Reply) → is_accepted (cond there (reply.Refused refusal.LotKnown) rest) ≡ true → there ≡ false
put_new true rest h = absurd (true≢false (sym h))
put_new false rest h = refl

new_there : (q : Params) (t : Agreement) (on : MarginSide) (log own : Log) (e : SideEvent) (r : Reply) → r ≡ answer_side q t on log own e → is_accepted r ≡ true → IsNew (lots own) e
new_there q t on log own (side.PutLot lot class value currency) r h accepted = put_new (is_there own lot) _ (sym (ap is_accepted h) ∙ accepted)
new_there q t on log own (side.TakeLot lot) r h accepted = tt
new_there q t on log own (side.MarkLot lot value) r h accepted = tt
new_there q t on log own (side.CloseCall number) r h accepted = tt
new_there q t on log own side.AskMargin r h accepted = tt
new_there q t on log own (side.AskCall moment) r h accepted = tt

is_new : (p : Params) (both : Agreements) (log : Log) (e : Event) (r : Reply) → r ≡ answer_by p both log e → is_accepted r ≡ true → IsNewThere log e
is_new p both log (event.Submit batch) r h accepted = tt
is_new p both log (event.Withdraw names) r h accepted = tt
is_new p both log (event.Tables text) r h accepted = tt
is_new p both log (event.OnSide on e) r h accepted = new_there p (terms_on on both) on log (entries_of on log) e r h accepted

-- ---- the live margin's book after the answer is the journal's

-- a change of the book is done or refused
abbrev pub is_settled : Reply → Bool
is_settled reply.Accepted = true
is_settled (reply.Refused _) = true
is_settled _ = false

book_settled : (at : Option RowPlace) (f : Option RangeFault) → is_settled (if_admitted at f) ≡ true
book_settled None None = refl
book_settled None (Some f) = refl
book_settled (Some at) f = refl

known_settled : (place : Option ℕ) → is_settled (if_known place) ≡ true
known_settled None = refl
known_settled (Some place) = refl

refused_book : (log : Log) (caller : ℕ) (e : Event) (why : Refusal) → book (log ++ entry caller e (reply.Refused why) ∷ []) ≡ book log
refused_book log caller e why = book-silent log (entry caller e (reply.Refused why)) (λ name. refl) refl

other_book : (log : Log) (caller : ℕ) (e : Event) (r : Reply) → ((name : List ℕ) → word_of_event name e ≡ Silent) → trades_of_event e ≡ [] → book log ≡ book (log ++ entry caller e r ∷ [])
other_book log caller e r silent none = sym (book-silent log (entry caller e r) (λ name. at (is_accepted r) (silent name)) (at (is_accepted r) none))
  where
    at : {X : Type 0} {x y : X} (s : Bool) → x ≡ y → cond s x y ≡ y
    at true h = h
    at false h = refl

submit_book : (log : Log) (caller : ℕ) (batch : List TradeRows) (r : Reply) → AreDifferent (starts [] log) → IsBatch batch → is_settled r ≡ true → live_book (book log) (event.Submit batch) r ≡ book (log ++ entry caller (event.Submit batch) r ∷ [])
submit_book log caller batch reply.Accepted d is h = sym (book-submitted log caller batch (different_trades batch is) (book_different log d))
submit_book log caller batch (reply.Refused why) d is h = sym (refused_book log caller (event.Submit batch) why)
submit_book log caller batch (reply.Margin b) d is h = absurd (true≢false (sym h))
submit_book log caller batch (reply.Called note) d is h = absurd (true≢false (sym h))
submit_book log caller batch (reply.NoCall excess margin booked) d is h = absurd (true≢false (sym h))

withdraw_book : (log : Log) (caller : ℕ) (names : List (List ℕ)) (r : Reply) → is_settled r ≡ true → live_book (book log) (event.Withdraw names) r ≡ book (log ++ entry caller (event.Withdraw names) r ∷ [])
withdraw_book log caller names reply.Accepted h = sym (book-withdrawn log caller names)
withdraw_book log caller names (reply.Refused why) h = sym (refused_book log caller (event.Withdraw names) why)
withdraw_book log caller names (reply.Margin b) h = absurd (true≢false (sym h))
withdraw_book log caller names (reply.Called note) h = absurd (true≢false (sym h))
withdraw_book log caller names (reply.NoCall excess margin booked) h = absurd (true≢false (sym h))

pub book_is : (log : Log) (caller : ℕ) (e : Event) (r : Reply) (p : Params) (t : Agreements) → AreDifferent (starts [] log) → IsEvent e → r ≡ answer_by p t log e → live_book (book log) e r ≡ book (log ++ entry caller e r ∷ [])
book_is log caller (event.Submit batch) r p t d is h = submit_book log caller batch r d is (ap is_settled h ∙ book_settled (first_unadmitted p batch) (range p (rows_of (book (log ++ entry 0 (event.Submit batch) reply.Accepted ∷ [])))))
book_is log caller (event.Withdraw names) r p t d is h = withdraw_book log caller names r (ap is_settled h ∙ known_settled (first_unknown log names))
book_is log caller (event.Tables text) r p t d is h = other_book log caller (event.Tables text) r (λ name. refl) refl
book_is log caller (event.OnSide on e) r p t d is h = other_book log caller (event.OnSide on e) r (λ name. refl) refl

-- ---- its tables are the journal's

same_tables : (q : Params) (accepted : Bool) → q ≡ cond accepted q q
same_tables q true = refl
same_tables q false = refl

brought : (q : Params) (text : ParamText) (r : Reply) → is_settled r ≡ true → live_params q (event.Tables text) r ≡ cond (is_accepted r) text.params q
brought q text reply.Accepted h = refl
brought q text (reply.Refused why) h = refl
brought q text (reply.Margin b) h = absurd (true≢false (sym h))
brought q text (reply.Called note) h = absurd (true≢false (sym h))
brought q text (reply.NoCall excess margin booked) h = absurd (true≢false (sym h))

pub tables_are : (q : Params) (t : Agreements) (log : Log) (caller : ℕ) (e : Event) (r : Reply) → r ≡ answer_by q t log e → live_params q e r ≡ tables_with q (entry caller e r)
tables_are q t log caller (event.Submit batch) r h = same_tables q (is_accepted r)
tables_are q t log caller (event.Withdraw names) r h = same_tables q (is_accepted r)
tables_are q t log caller (event.Tables text) r h = brought q text r (ap is_settled h ∙ book_settled (first_unadmitted text.params (book log)) (range text.params (rows_of (book log))))
tables_are q t log caller (event.OnSide on e) r h = same_tables q (is_accepted r)

-- ---- all of it

accepted_different : (e : Event) (r : Reply) (caller : ℕ) → IsEvent e → AreDifferent (accepted_trades (entry caller e r))
accepted_different e r caller is = at (is_accepted r) (of_event e is)
  where
    of_event : (e : Event) → IsEvent e → AreDifferent (trades_of_event e)
    of_event (event.Submit batch) is = different_trades batch is
    of_event _ is = tt

    at : (s : Bool) → AreDifferent (trades_of_event e) → AreDifferent (cond s (trades_of_event e) [])
    at true d = d
    at false d = tt

pub record Applied (p : Params) (new : Traded) (held has : Ledgers) (count caller : ℕ) (log : Log) (e : Event) (r : Reply) : Type 0 where
  pub kept : IsKept p new has (count + event_rows e) (log ++ entry caller e r ∷ [])
  pub terms : terms_of has ≡ terms_of held
  pub value : r ≡ answer p (terms_of held) log e

pub applied : (p : Params) (l new : Traded) (held has : Ledgers) (count caller : ℕ) (log : Log) (e : Event) (r : Reply) → IsKept p l held count log → is_full log e ≡ false → IsEvent e → Does l new held has e r → Applied p new held has count caller log e r
applied p l new held has count caller log e r kept room is does =
    let q : Params = tables p log in
    let both : Agreements = terms_of held in
    let longer : Log = log ++ entry caller e r ∷ [] in
    let room : (nat_le 65535 (length log) ≡ false) × (nat_lt 500000 (journal_rows log + event_rows e) ≡ false) = or_parts (nat_le 65535 (length log)) (nat_lt 500000 (journal_rows log + event_rows e)) room in
    let few : length log < 65535 = leb-false 65535 (length log) room.0 in
    let light : journal_rows log + event_rows e ≤ 500000 = ltb-false 500000 (journal_rows log + event_rows e) room.1 in
    let same : l ≡ record { params = q; book = book log } = λ i. record { params = kept.tables i; book = kept.book i } in
    let value : r ≡ answer p both log e =
    does.value ∙ ap (λ m. live_reply m held e) same ∙ ap (λ h. live_reply (record { params = q; book = book log }) h e) kept.ledger
    ∙ answer_is q both log e kept.different is in
    let terms : terms_of has ≡ both = ap terms_of does.ledger ∙ terms_stay held e r in
    let ledger : has ≡ ledgers both longer =
    does.ledger ∙ ap (λ h. ledgers_after h e r) kept.ledger ∙ ledgers_are both log caller e r (is_new q both log e r value) in
    let rows : journal_rows longer ≡ journal_rows log + event_rows e = sum_by-append (λ x. event_rows x.event) log (entry caller e r ∷ []) ∙ omega arith in
    record {
      kept = record {
        one = subst (λ t. IsOneSet t.collect t.post) (sym terms) kept.one;
        set = record {
          few = omega (arith, few, length-append log (entry caller e r ∷ []));
          light = omega (arith, light, rows);
          legal = subst (λ t. IsLegal p t longer) (sym terms) (legal-push p both log (entry caller e r) kept.set.legal value);
        };
        tables =
            ap (λ m. m.params) does.live ∙ ap (λ params. live_params params e r) kept.tables ∙ tables_are q both log caller e r value
            ∙ sym (tables-push p log (entry caller e r));
        book = ap (λ m. m.book) does.live ∙ ap (λ b. live_book b e r) kept.book ∙ book_is log caller e r q both kept.different is value;
        ledger = ledger ∙ ap (λ t. ledgers t longer) (sym terms);
        rows = omega (arith, kept.rows, rows);
        different = starts_different log (entry caller e r) (accepted_different e r caller is) kept.different;
      };
      terms = terms;
      value = value;
    }

-- no more calls were added on a side than the journal has entries
pub few_calls : (p : Params) (l : Traded) (held : Ledgers) (count : ℕ) (log : Log) → IsKept p l held count log → (on : MarginSide) → (ledger_on on held).added ≤ 65535
few_calls p l held count log kept on =
    let its : (ledger_on on held).added ≡ made (entries_of on log) = ap (λ h. (ledger_on on h).added) kept.ledger ∙ ap (λ h. h.added) (held_on on (terms_of held) log) in
    omega (arith, its, made_few (entries_of on log), few_entries on log, kept.set.few)
