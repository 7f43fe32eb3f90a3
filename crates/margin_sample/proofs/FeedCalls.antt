-- The messages of a feed of a sample as calls on its sets.
use Rattle.std.proofs.Common.{◌≡◌, ◌==◌, ℕ, zero, suc, ◌+◌, ◌*◌, ◌<◌, ◌≤◌, ◌%◌, Bool, true, false, cond, List, [], ◌∷◌, ◌++◌, length, Option, Some, None, Ok, inl, inr, refl, sym, ap, ◌∙◌, subst, arith, codes, if◌then◌else◌}
use Rattle.std.specs.List.{filter_map, AllByRecursion}
use Rattle.std.proofs.lemmas.List.Elements.{filter_map-append}
use Rattle.std.proofs.lemmas.Nat.{mod_below}
use Rattle.std.proofs.lemmas.Option.{none-some, same_Some}
use Rattle.std.specs.Result.{result_ok}
use Rattle.crif_reader.specs.Grammar.{crif_of}
use Rattle.simm_kinds.specs.declared.row.TradeRows.{TradeRows}
use Rattle.simm_kinds.specs.Batch.{rows_of}
use Rattle.simm_kinds.specs.declared.margin_side.MarginSide.TheVariants.{Collect}
use Rattle.simm_kinds.specs.Order.{same_name}
use Rattle.book_range.proofs.Lists.{each_append}
use Rattle.feed_gate.specs.FeedReader.SideEvents.declared.side_event.SideEvent.TheVariants as side
use Rattle.feed_gate.specs.FeedReader.declared.message.Message.TheVariants as message
use Rattle.feed_gate.specs.FeedReader.Feed.{Item, Sent}
use Rattle.feed_gate.specs.SetCore.declared.event.Event.{Event}
use Rattle.feed_gate.specs.SetCore.declared.event.Event.TheVariants as event
use Rattle.feed_gate.specs.SetCore.Room.{event_rows}
use Rattle.feed_gate.specs.declared.report.RefusedMessage.{RefusedMessage}
use Rattle.feed_gate.specs.declared.report.RefusedMessage.TheVariants as refused
use Rattle.feed_gate.specs.FeedEvents.Events.{submit_of}
use Rattle.feed_gate.specs.Calls.{call_on}
use Rattle.feed_gate.specs.Fates.{by_event}
use Rattle.feed_gate.specs.Met.{IsMetBy, IsMet}
use Rattle.house_sample.specs.CrifWriter.Text.{batch_text}
use Rattle.house_sample.specs.Agreements.{set_name}
use Rattle.house_sample.specs.Trades.{batch_at, place_of, batches, rows_from}
use Rattle.house_sample.specs.Feeds.{messages_at, messages_to, messages_of}
use Rattle.house_sample.proofs.AllTrades.{IsPlace}
use Rattle.house_sample.proofs.ReadBack.{batch_back}
use Rattle.margin_sample.specs.Calls.{asks, calls_to, calls_of}

abbrev pub both_names : List (List ℕ)
both_names = codes "S0" ∷ codes "S1" ∷ []

-- a call stands in a journal, unless the journal was full
abbrev pub IsFullAtMost : Option RefusedMessage → Type 0
IsFullAtMost None = Unit {0}
IsFullAtMost (Some (refused.Full line set entries rows)) = Unit {0}
IsFullAtMost (Some (refused.BadLine line)) = ⊥
IsFullAtMost (Some (refused.UnknownSet line)) = ⊥
IsFullAtMost (Some (refused.BadBatch line fault)) = ⊥
IsFullAtMost (Some (refused.BadTables line fault)) = ⊥
IsFullAtMost (Some (refused.LongTables line bytes)) = ⊥

full_at_most : (line place : ℕ) (e : Event) (r : Option RefusedMessage) → IsMetBy (by_event line place (Ok e)) r → IsFullAtMost r
full_at_most line place e None h = tt
full_at_most line place e (Some (refused.Full at set entries rows)) h = tt
full_at_most line place e (Some (refused.BadLine at)) h = h
full_at_most line place e (Some (refused.UnknownSet at)) h = h
full_at_most line place e (Some (refused.BadBatch at fault)) h = h
full_at_most line place e (Some (refused.BadTables at fault)) h = h
full_at_most line place e (Some (refused.LongTables at bytes)) h = h

-- a message of at most four rows that names one of the sets
pub record IsCalling (item : Item) : Type 0 where
  pub few : (name : List ℕ) (e : Event) → call_on name item ≡ Some e → event_rows e ≤ 4
  pub met : (r : Option RefusedMessage) → IsMet both_names (record { item = item; refused = r }) → IsFullAtMost r

place_is : (n : ℕ) → IsPlace (place_of n)
place_is n = two (n % 2) (mod_below n 2 (omega arith))
  where
    two : (k : ℕ) → k < 2 → IsPlace k
    two zero h = inl refl
    two (suc zero) h = inr refl
    two (suc (suc k)) h = absurd (omega (arith, h))

-- ---- one batch

abbrev both_messages : ℕ → ℕ → ℕ → List ℕ → List Item
both_messages line behind place text =
    Sent (record { line = line; message = message.Crif (set_name place) text })
    ∷ Sent (record { line = behind; message = message.OnSide (set_name place) Collect side.AskMargin })
    ∷ []

module _ (line behind : ℕ) (text : List ℕ) (trades : List TradeRows) (back : crif_of text ≡ Ok (record { trades = trades; passed_over = 0 })) where
  abbrev Gives : ℕ → ℕ → Type 0
  Gives place from = filter_map (call_on (set_name place)) (both_messages line behind from text) ≡ (if from == place then event.Submit trades ∷ asks ∷ [] else [])

  gives_at : (place from : ℕ) → IsPlace place → IsPlace from → Gives place from
  gives_at place from (inl e) (inl f) = subst (λ k. Gives k from) (sym e) (subst (λ k. Gives 0 k) (sym f) (rw back refl))
  gives_at place from (inl e) (inr f) = subst (λ k. Gives k from) (sym e) (subst (λ k. Gives 0 k) (sym f) refl)
  gives_at place from (inr e) (inl f) = subst (λ k. Gives k from) (sym e) (subst (λ k. Gives 1 k) (sym f) refl)
  gives_at place from (inr e) (inr f) = subst (λ k. Gives k from) (sym e) (subst (λ k. Gives 1 k) (sym f) (rw back refl))

  -- the event of the block
  submits : submit_of text ≡ Ok (event.Submit trades)
  submits = rw back refl

  block_met : (from : ℕ) → IsPlace from → (r : Option RefusedMessage) → IsMet both_names (record { item = Sent (record { line = line; message = message.Crif (set_name from) text }); refused = r }) → IsFullAtMost r
  block_met from (inl e) r h =
      full_at_most line 0 (event.Submit trades) r
      (subst (λ read. IsMetBy (by_event line 0 read) r) submits (subst (λ k. IsMet both_names (record { item = Sent (record { line = line; message = message.Crif (set_name k) text }); refused = r })) e h))
  block_met from (inr e) r h =
      full_at_most line 1 (event.Submit trades) r
      (subst (λ read. IsMetBy (by_event line 1 read) r) submits (subst (λ k. IsMet both_names (record { item = Sent (record { line = line; message = message.Crif (set_name k) text }); refused = r })) e h))

  ask_met : (from : ℕ) → IsPlace from → (r : Option RefusedMessage) → IsMet both_names (record { item = Sent (record { line = behind; message = message.OnSide (set_name from) Collect side.AskMargin }); refused = r }) → IsFullAtMost r
  ask_met from (inl e) r h =
      full_at_most behind 0 asks r
      (subst (λ k. IsMet both_names (record { item = Sent (record { line = behind; message = message.OnSide (set_name k) Collect side.AskMargin }); refused = r })) e h)
  ask_met from (inr e) r h =
      full_at_most behind 1 asks r
      (subst (λ k. IsMet both_names (record { item = Sent (record { line = behind; message = message.OnSide (set_name k) Collect side.AskMargin }); refused = r })) e h)

  where_named : (t : Bool) (one e : Event) → event_rows one ≤ 4 → cond t (Some one) None ≡ Some e → event_rows e ≤ 4
  where_named true one e few h = subst (λ x. event_rows x ≤ 4) (same_Some one e h) few
  where_named false one e few h = absurd (none-some e h)

  block_few : length (rows_of trades) ≤ 4 → (set name : List ℕ) (e : Event) → call_on name (Sent (record { line = line; message = message.Crif set text })) ≡ Some e → event_rows e ≤ 4
  block_few few set name e h =
      where_named (same_name set name) (event.Submit trades) e few
      (subst (λ read. cond (same_name set name) (result_ok read) None ≡ Some e) submits h)

  ask_few : (set name : List ℕ) (e : Event) → call_on name (Sent (record { line = behind; message = message.OnSide set Collect side.AskMargin })) ≡ Some e → event_rows e ≤ 4
  ask_few set name e h = where_named (same_name set name) asks e (omega arith) h

  both_calling : length (rows_of trades) ≤ 4 → (from : ℕ) → IsPlace from → AllByRecursion IsCalling (both_messages line behind from text)
  both_calling few from at = (
    record { few = λ name e h. block_few few (set_name from) name e h; met = block_met from at },
    (record { few = λ name e h. ask_few (set_name from) name e h; met = ask_met from at }, tt),
  )

-- ---- all batches

four_rows : (seed feed batch : ℕ) → length (rows_of (batch_at seed feed batch)) ≤ 4
unfolding rows_from
four_rows seed feed batch = omega arith

all_calling : (seed feed n : ℕ) → feed < 32 → n ≤ 50 → AllByRecursion IsCalling (messages_to seed feed n)
unfolding messages_to
all_calling seed feed zero few less = tt
all_calling seed feed (suc n) few less =
    each_append IsCalling (messages_to seed feed n) (messages_at seed feed n) (all_calling seed feed n few (omega (arith, less)))
    (both_calling (8 * n + 1) (8 * n + 8) (batch_text (batch_at seed feed n)) (batch_at seed feed n) (batch_back seed feed n few (omega (arith, less))) (four_rows seed feed n) (place_of n) (place_is n))

pub feed_calling : (seed feed : ℕ) → feed < 32 → AllByRecursion IsCalling (messages_of seed feed)
feed_calling seed feed few = all_calling seed feed batches few (omega arith)

calls_are : (seed feed place n : ℕ) → feed < 32 → n ≤ 50 → IsPlace place → filter_map (call_on (set_name place)) (messages_to seed feed n) ≡ calls_to seed feed place n
unfolding messages_to calls_to
calls_are seed feed place zero few less at = refl
calls_are seed feed place (suc n) few less at =
    filter_map-append (call_on (set_name place)) (messages_to seed feed n) (messages_at seed feed n)
    ∙ ap (λ es. es ++ filter_map (call_on (set_name place)) (messages_at seed feed n)) (calls_are seed feed place n few (omega (arith, less)) at)
    ∙ ap (λ es. calls_to seed feed place n ++ es)
    (gives_at (8 * n + 1) (8 * n + 8) (batch_text (batch_at seed feed n)) (batch_at seed feed n) (batch_back seed feed n few (omega (arith, less))) place (place_of n) at (place_is n))

pub feed_calls : (seed feed place : ℕ) → feed < 32 → IsPlace place → filter_map (call_on (set_name place)) (messages_of seed feed) ≡ calls_of seed feed place
feed_calls seed feed place few at = calls_are seed feed place batches few (omega arith) at

-- ---- how many they are

pub message_count : (seed feed : ℕ) → length (messages_of seed feed) ≡ 100
unfolding messages_to
message_count seed feed = refl

pub call_count : (seed feed place : ℕ) → IsPlace place → length (calls_of seed feed place) ≡ 50
unfolding calls_to
call_count seed feed place (inl e) = subst (λ k. length (calls_of seed feed k) ≡ 50) (sym e) first
  where
    first : length (calls_of seed feed 0) ≡ 50
    first = refl
call_count seed feed place (inr e) = subst (λ k. length (calls_of seed feed k) ≡ 50) (sym e) second
  where
    second : length (calls_of seed feed 1) ≡ 50
    second = refl
