-- The journal of a set behind the feeds of a sample: it had room for each call, so it holds all calls of each feed.
use Rattle.std.proofs.Common.{◌≡◌, ◌==◌, ℕ, zero, suc, ◌+◌, ◌*◌, ◌<◌, ◌≤◌, nat_le, nat_lt, Bool, true, false, cond, List, [], ◌∷◌, ◌++◌, map, length, Option, Some, None, inl, inr, refl, sym, ap, ◌∙◌, subst, arith, length-append}
use Rattle.std.specs.Option.{is_none}
use Rattle.std.specs.List.{cons_option, filter_map, flat_map, AllByRecursion}
use Rattle.std.specs.List.Sorted.{IsPermutation}
use mathlib.Core.List.{IsPrefix}
use Rattle.std.proofs.lemmas.Bool.{or_cases, leb-true, ltb-true}
use Rattle.std.proofs.lemmas.Option.{none-some}
use Rattle.std.proofs.lemmas.Grind.{flat_map-append}
use Rattle.std.proofs.lemmas.List.{length-map}
use Rattle.std.proofs.lemmas.List.Elements.{All-from_recursion, recursion_from_All}
use Rattle.std.proofs.lemmas.List.Sorted.{All-permutation, IsPermutation-sym, length_permutation}
use Rattle.std.proofs.lemmas.List.Sums.{sum_by-cons}
use Rattle.book_range.proofs.Lists.{each_append, each_parts}
use Rattle.simm_kinds.specs.declared.row.CrifRow.{CrifRow}
use Rattle.simm_kinds.specs.declared.row.TradeRows.{TradeRows}
use Rattle.simm_kinds.specs.Batch.{rows_of}
use Rattle.simm_rules.specs.Params.{Params}
use Rattle.held_cell.specs.declared.entry.Entry.{Entry}
use Rattle.held_cell.specs.Entries.{own_of}
use Rattle.feed_gate.specs.SetCore.declared.event.Event.{Event}
use Rattle.feed_gate.specs.SetCore.declared.event.Event.TheVariants as event
use Rattle.feed_gate.specs.SetCore.declared.reply.Reply.{Reply}
use Rattle.feed_gate.specs.SetCore.Book.{is_accepted, trades_of_event}
use Rattle.feed_gate.specs.SetCore.Tables.{tables_of_event, tables}
use Rattle.feed_gate.specs.SetCore.Room.{event_rows, journal_rows, IsFull}
use Rattle.feed_gate.specs.declared.report.RefusedMessage.{RefusedMessage}
use Rattle.feed_gate.specs.declared.report.RefusedMessage.TheVariants as refused
use Rattle.feed_gate.specs.Calls.{call_on}
use Rattle.feed_gate.specs.Met.{Met, IsMet, event_done, events_done, events_of, ShowsFront, ShowFronts}
use Rattle.feed_gate.specs.SetsRun.{IsFedBy}
use Rattle.house_sample.specs.Agreements.{set_name}
use Rattle.house_sample.specs.Trades.{rows_from, batch_at, place_of, batches, state_at, trade_name, trades_to, all_trades}
use Rattle.house_sample.specs.Feeds.{messages_of}
use Rattle.house_sample.proofs.InRange.{IsDrawn}
use Rattle.house_sample.proofs.AllTrades.{IsPlace}
use Rattle.margin_sample.specs.Calls.{calls_at, calls_to, calls_of}
use Rattle.margin_sample.proofs.Callers.{by_caller, callers_apart}
use Rattle.margin_sample.proofs.FeedCalls.{both_names, IsFullAtMost, IsCalling, feed_calling, feed_calls, message_count, call_count}

abbrev pub Log : Type 0
Log = List (Entry Event Reply)

abbrev IsFew : Event → Type 0
IsFew e = event_rows e ≤ 4

-- what holds of each item holds in another order
pub each_shuffled : {X : Type 0} (P : X → Type 0) (xs ys : List X) → IsPermutation xs ys → AllByRecursion P xs → AllByRecursion P ys
each_shuffled P xs ys h all = recursion_from_All P ys (All-permutation P xs ys h (All-from_recursion P xs all))

-- ---- what is done of the messages of a feed, whether a journal was full or not

where_done : (t : Bool) (o : Option Event) (e : Event) → cond t o None ≡ Some e → o ≡ Some e
where_done true o e h = h
where_done false o e h = absurd (none-some e h)

each_option : {X : Type 0} (P : X → Type 0) (o : Option X) (xs : List X) → ((x : X) → o ≡ Some x → P x) → AllByRecursion P xs → AllByRecursion P (cons_option o xs)
each_option P None xs f h = h
each_option P (Some x) xs f h = (f x refl, h)

done_few : (name : List ℕ) (mets : List Met) → AllByRecursion IsCalling (map (λ m. m.item) mets) → AllByRecursion IsFew (events_done name mets)
done_few name [] h = tt
done_few name (m ∷ mets) h =
    each_option IsFew (event_done name m) (events_done name mets) (λ e is. h.0.few name e (where_done (is_none m.refused) (call_on name m.item) e is)) (done_few name mets h.1)

one_more_at_most : {X : Type 0} (o : Option X) (xs : List X) → length (cons_option o xs) ≤ length xs + 1
one_more_at_most None xs = omega arith
one_more_at_most (Some x) xs = omega arith

done_short : (name : List ℕ) (mets : List Met) → length (events_done name mets) ≤ length mets
done_short name [] = omega arith
done_short name (m ∷ mets) = omega (arith, one_more_at_most (event_done name m) (events_done name mets), done_short name mets)

-- ---- a journal that was never full

-- no event of at most four rows finds any front of it full
abbrev HasRoom : Log → Type 0
HasRoom log = (front : Log) → IsPrefix front log → (e : Event) → IsFew e → IsFull front e → ⊥

module _ (feed : ℕ) (log : Log) (room : HasRoom log) where
  not_full : (before : List Event) (o : Option Event) (r : Option RefusedMessage) → ((e : Event) → o ≡ Some e → IsFew e) → IsFullAtMost r → ShowsFront feed 1 log before o r → cond (is_none r) o None ≡ o
  not_full before None None few h shows = refl
  not_full before None (Some r) few h shows = refl
  not_full before (Some e) None few h shows = refl
  not_full before (Some e) (Some (refused.BadLine line)) few h shows = absurd h
  not_full before (Some e) (Some (refused.UnknownSet line)) few h shows = absurd h
  not_full before (Some e) (Some (refused.BadBatch line fault)) few h shows = absurd h
  not_full before (Some e) (Some (refused.BadTables line fault)) few h shows = absurd h
  not_full before (Some e) (Some (refused.LongTables line bytes)) few h shows = absurd h
  not_full before (Some e) (Some (refused.Full line set entries rows)) few h shows = absurd (room shows.front shows.begins e (few e refl) shows.full)

  all_done : (name : List ℕ) (before : List Event) (mets : List Met) → AllByRecursion IsCalling (map (λ m. m.item) mets) → AllByRecursion (IsMet both_names) mets → ShowFronts feed 1 log name before mets
      → events_done name mets ≡ filter_map (call_on name) (map (λ m. m.item) mets)
  all_done name before [] h met shows = refl
  all_done name before (m ∷ mets) h met shows =
      ap (λ o. cons_option o (events_done name mets)) (not_full before (call_on name m.item) m.refused (h.0.few name) (h.0.met m.refused met.0) shows.0)
      ∙ ap (cons_option (call_on name m.item)) (all_done name (before ++ events_done name (m ∷ [])) mets h.1 met.1 shows.1)

-- ---- what one feed did to a set

-- each of its messages met its set, and its entries in the journal are its calls but for those that found it full
pub record HasRun (seed place feed : ℕ) (log : Log) : Type 0 where
  pub mets : List Met
  pub items : map (λ m. m.item) mets ≡ messages_of seed feed
  pub met : AllByRecursion (IsMet both_names) mets
  pub fed : IsFedBy feed mets (set_name place) log

module _ (seed place feed : ℕ) (log : Log) (small : feed < 32) (run : HasRun seed place feed log) where
  calling : AllByRecursion IsCalling (map (λ m. m.item) run.mets)
  calling = subst (AllByRecursion IsCalling) (sym run.items) (feed_calling seed feed small)

  own_few : AllByRecursion IsFew (events_of (own_of feed 1 log))
  own_few = subst (AllByRecursion IsFew) (sym run.fed.own) (done_few (set_name place) run.mets calling)

  own_short : length (events_of (own_of feed 1 log)) ≤ 100
  own_short =
      let count : length run.mets ≡ 100 = sym (length-map run.mets (λ (m : Met). m.item)) ∙ ap length run.items ∙ message_count seed feed in
      omega (arith, count, ap length run.fed.own, done_short (set_name place) run.mets)

  own_calls : IsPlace place → HasRoom log → events_of (own_of feed 1 log) ≡ calls_of seed feed place
  own_calls at room =
      run.fed.own
      ∙ all_done feed log room (set_name place) [] run.mets calling run.met run.fed.fronts
      ∙ ap (filter_map (call_on (set_name place))) run.items
      ∙ feed_calls seed feed place small at

-- ---- all feeds

singles : {X Y : Type 0} (g : X → Y) (xs : List X) → flat_map (λ x. g x ∷ []) xs ≡ map g xs
singles g [] = refl
singles g (x ∷ xs) = ap (λ ys. g x ∷ ys) (singles g xs)

abbrev event_in : Entry Event Reply → List Event
event_in e = e.event ∷ []

-- the calls of the first feeds, one feed after another
unfoldable pub all_calls : ℕ → ℕ → ℕ → List Event
all_calls seed place zero = []
all_calls seed place (suc feeds) = all_calls seed place feeds ++ calls_of seed feeds place

-- a batch of one drawn trade
pub record IsOneDrawn (trades : List TradeRows) : Type 0 where
  pub trade : TradeRows
  pub is : trades ≡ trade ∷ []
  pub drawn : IsDrawn trade

-- a call that a feed of a sample makes
abbrev pub IsCall : Event → Type 0
IsCall (event.Submit trades) = IsOneDrawn trades
IsCall (event.Withdraw names) = ⊥
IsCall (event.Tables text) = ⊥
IsCall (event.OnSide on e) = Unit {0}

feed_known : (seed feed place n : ℕ) → AllByRecursion IsCall (calls_to seed feed place n)
unfolding calls_to
feed_known seed feed place zero = tt
feed_known seed feed place (suc n) = each_append IsCall (calls_to seed feed place n) (cond (place_of n == place) (calls_at seed feed n) []) (feed_known seed feed place n) (new (place_of n == place))
  where
    new : (t : Bool) → AllByRecursion IsCall (cond t (calls_at seed feed n) [])
    new true = (record { trade = record { trade = trade_name feed n; rows = rows_from (state_at seed feed n) }; is = refl; drawn = record { state = state_at seed feed n; rows = refl } }, (tt, tt))
    new false = tt

-- none of them brings tables
pub same_tables : (p : Params) (log : Log) → AllByRecursion (λ e. IsCall e.event) log → tables p log ≡ p
same_tables p [] calls = refl
same_tables p (e ∷ log) calls = ap (λ q. tables q log) (stands e.event (is_accepted e.reply) calls.0) ∙ same_tables p log calls.1
  where
    stands : (event : Event) (accepted : Bool) → IsCall event → cond accepted (tables_of_event p event) p ≡ p
    stands (event.Submit trades) true call = refl
    stands (event.Withdraw names) true call = absurd call
    stands (event.Tables text) true call = absurd call
    stands (event.OnSide on e) true call = refl
    stands e false call = refl

-- ---- the trades of a journal

abbrev trades_at : Entry Event Reply → List TradeRows
trades_at e = trades_of_event e.event

abbrev rows_at : Entry Event Reply → List CrifRow
rows_at e = rows_of (trades_of_event e.event)

-- those of all its submits
abbrev pub trades_in : Log → List TradeRows
trades_in log = flat_map trades_at log

trades_by_event : (log : Log) → trades_in log ≡ flat_map trades_of_event (events_of log)
trades_by_event [] = refl
trades_by_event (e ∷ log) = ap (λ ts. trades_of_event e.event ++ ts) (trades_by_event log)

rows_append : (xs ys : List TradeRows) → rows_of (xs ++ ys) ≡ rows_of xs ++ rows_of ys
rows_append xs ys = flat_map-append (λ (t : TradeRows). t.rows) xs ys

rows_by_trade : (log : Log) → flat_map rows_at log ≡ rows_of (trades_in log)
rows_by_trade [] = refl
rows_by_trade (e ∷ log) = ap (λ rows. rows_at e ++ rows) (rows_by_trade log) ∙ sym (rows_append (trades_at e) (trades_in log))

feed_trades : (seed feed place n : ℕ) → flat_map trades_of_event (calls_to seed feed place n) ≡ trades_to seed feed place n
unfolding calls_to trades_to
feed_trades seed feed place zero = refl
feed_trades seed feed place (suc n) =
    flat_map-append trades_of_event (calls_to seed feed place n) (cond (place_of n == place) (calls_at seed feed n) [])
    ∙ ap (λ ts. ts ++ flat_map trades_of_event (cond (place_of n == place) (calls_at seed feed n) [])) (feed_trades seed feed place n)
    ∙ ap (λ ts. trades_to seed feed place n ++ ts) (new (place_of n == place))
  where
    new : (t : Bool) → flat_map trades_of_event (cond t (calls_at seed feed n) []) ≡ cond t (batch_at seed feed n) []
    new true = refl
    new false = refl

few_below : (log : Log) → length log ≤ 3200 → AllByRecursion IsFew (events_of log) → HasRoom log
few_below log short few front begins e small full =
    let whole = begins.1 in
    let fewer : AllByRecursion IsFew (events_of front) = (each_parts IsFew (events_of front) (events_of begins.0) (subst (AllByRecursion IsFew) (sym (ap events_of whole) ∙ events_append front begins.0) few)).0 in
    elim (or_cases (nat_le 65535 (length front)) (nat_lt 500000 (journal_rows front + event_rows e)) full) [
      | inl long ↦ omega (arith, leb-true 65535 (length front) long, short, ap length whole, length-append front begins.0)
      | inr heavy ↦ omega (arith, ltb-true 500000 (journal_rows front + event_rows e) heavy, small, few_rows front fewer, short, ap length whole, length-append front begins.0)
    ]
  where
    events_append : (xs ys : Log) → events_of (xs ++ ys) ≡ events_of xs ++ events_of ys
    events_append [] ys = refl
    events_append (x ∷ xs) ys = ap (λ es. x.event ∷ es) (events_append xs ys)

    few_rows : (xs : Log) → AllByRecursion IsFew (events_of xs) → journal_rows xs ≤ 4 * length xs
    few_rows [] h = omega arith
    few_rows (x ∷ xs) h = let one = h.0 in omega (arith, one, few_rows xs h.1, sum_by-cons (λ (y : Entry Event Reply). event_rows y.event) x xs)

module _ (seed place feeds : ℕ) (log : Log) (at : IsPlace place) (many : feeds ≤ 32) (callers : own_of 0 feeds log ≡ log) (runs : (feed : ℕ) → feed < feeds → HasRun seed place feed log) where
  callers_few : (n : ℕ) → n ≤ feeds → AllByRecursion IsFew (by_caller event_in n log)
  callers_few zero h = tt
  callers_few (suc n) h =
      each_append IsFew (by_caller event_in n log) (flat_map event_in (own_of n 1 log)) (callers_few n (omega (arith, h)))
      (subst (AllByRecursion IsFew) (sym (singles (λ (e : Entry Event Reply). e.event) (own_of n 1 log))) (own_few seed place n log (omega (arith, h, many)) (runs n (omega (arith, h)))))

  callers_short : (n : ℕ) → n ≤ feeds → length (by_caller event_in n log) ≤ 100 * n
  callers_short zero h = omega arith
  callers_short (suc n) h =
      omega (
        arith,
        length-append (by_caller event_in n log) (flat_map event_in (own_of n 1 log)),
        ap length (singles (λ (e : Entry Event Reply). e.event) (own_of n 1 log)),
        own_short seed place n log (omega (arith, h, many)) (runs n (omega (arith, h))),
        callers_short n (omega (arith, h)),
      )

  apart : IsPermutation (events_of log) (by_caller event_in feeds log)
  apart = subst (λ es. IsPermutation es (by_caller event_in feeds log)) (singles (λ (e : Entry Event Reply). e.event) log) (callers_apart event_in feeds log callers)

  has_room : HasRoom log
  has_room =
      few_below log
      (omega (arith, many, callers_short feeds (omega arith), length_permutation (events_of log) (by_caller event_in feeds log) apart, length-map log (λ (e : Entry Event Reply). e.event)))
      (each_shuffled IsFew (by_caller event_in feeds log) (events_of log) (IsPermutation-sym (events_of log) (by_caller event_in feeds log) apart) (callers_few feeds (omega arith)))

  pub each_calls : (feed : ℕ) → feed < feeds → events_of (own_of feed 1 log) ≡ calls_of seed feed place
  each_calls feed h = own_calls seed place feed log (omega (arith, h, many)) (runs feed h) at has_room

  -- ---- all entries are of the feeds

  callers_calls : (n : ℕ) → n ≤ feeds → by_caller event_in n log ≡ all_calls seed place n
  unfolding all_calls
  callers_calls zero h = refl
  callers_calls (suc n) h =
      ap (λ es. es ++ flat_map event_in (own_of n 1 log)) (callers_calls n (omega (arith, h)))
      ∙ ap (λ es. all_calls seed place n ++ es) (singles (λ (e : Entry Event Reply). e.event) (own_of n 1 log) ∙ each_calls n (omega (arith, h)))

  calls_apart : IsPermutation (events_of log) (all_calls seed place feeds)
  calls_apart = subst (IsPermutation (events_of log)) (callers_calls feeds (omega arith)) apart

  pub entry_count : length log ≡ 50 * feeds
  unfolding all_calls
  entry_count =
      omega (arith, length_permutation (events_of log) (all_calls seed place feeds) calls_apart, all_call_count feeds, length-map log (λ (e : Entry Event Reply). e.event))
    where
      all_call_count : (n : ℕ) → length (all_calls seed place n) ≡ 50 * n
      all_call_count zero = omega arith
      all_call_count (suc n) = omega (arith, all_call_count n, call_count seed n place at, length-append (all_calls seed place n) (calls_of seed n place))

  pub calls_known : AllByRecursion IsCall (events_of log)
  unfolding all_calls
  calls_known =
      each_shuffled IsCall (all_calls seed place feeds) (events_of log) (IsPermutation-sym (events_of log) (all_calls seed place feeds) calls_apart) (all_known feeds)
    where
      all_known : (n : ℕ) → AllByRecursion IsCall (all_calls seed place n)
      all_known zero = tt
      all_known (suc n) = each_append IsCall (all_calls seed place n) (calls_of seed n place) (all_known n) (feed_known seed n place batches)

  -- ---- and so are all trades

  callers_trades : (n : ℕ) → n ≤ feeds → by_caller trades_at n log ≡ all_trades seed place n
  unfolding all_trades
  callers_trades zero h = refl
  callers_trades (suc n) h =
      ap (λ ts. ts ++ trades_in (own_of n 1 log)) (callers_trades n (omega (arith, h)))
      ∙ ap (λ ts. all_trades seed place n ++ ts)
      (trades_by_event (own_of n 1 log) ∙ ap (flat_map trades_of_event) (each_calls n (omega (arith, h))) ∙ feed_trades seed n place batches)

  pub trades_are : IsPermutation (trades_in log) (all_trades seed place feeds)
  trades_are = subst (IsPermutation (trades_in log)) (callers_trades feeds (omega arith)) (callers_apart trades_at feeds log callers)

  callers_rows : (n : ℕ) → by_caller rows_at n log ≡ rows_of (by_caller trades_at n log)
  callers_rows zero = refl
  callers_rows (suc n) =
      ap (λ rows. rows ++ flat_map rows_at (own_of n 1 log)) (callers_rows n)
      ∙ ap (λ rows. rows_of (by_caller trades_at n log) ++ rows) (rows_by_trade (own_of n 1 log))
      ∙ sym (rows_append (by_caller trades_at n log) (trades_in (own_of n 1 log)))

  pub rows_are : IsPermutation (rows_of (trades_in log)) (rows_of (all_trades seed place feeds))
  rows_are =
      subst (λ rows. IsPermutation rows (rows_of (all_trades seed place feeds))) (rows_by_trade log)
      (subst (IsPermutation (flat_map rows_at log)) (callers_rows feeds ∙ ap rows_of (callers_trades feeds (omega arith))) (callers_apart rows_at feeds log callers))
