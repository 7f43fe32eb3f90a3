-- The book after one entry more.
use Rattle.std.proofs.Common.{◌≡◌, ℕ, List, [], ◌∷◌, ◌++◌, Bool, true, false, ◌&&◌, ◌||◌, not, cond, map, refl, sym, ap, ◌∙◌, subst, append_assoc, append-nil}
use Rattle.std.specs.List.{filter, AllByRecursion}
use Rattle.std.proofs.lemmas.Bool.{true≢false, false≢true, or_parts, or_from}
use Rattle.std.proofs.lemmas.List.{map-append}
use Rattle.std.proofs.lemmas.List.Folds.{list_any-append}
use Rattle.set_core.proofs.Filters.{filter_agrees, filter_every, each_always, each_weaker, each_kept}
use Rattle.collateral_ledger.specs.SimmKinds.declared.row.TradeRows.{TradeRows}
use Rattle.collateral_ledger.specs.SimmKinds.Order.{same_name}
use Rattle.held_cell.specs.declared.entry.Entry.{Entry}
use Rattle.held_cell.specs.Entries.{entry}
use Rattle.bucket_cache.specs.Live.{put_trades, without, is_current as has_trade}
use Rattle.set_core.specs.declared.event.Event.{Event}
use Rattle.set_core.specs.declared.event.Event.TheVariants as event
use Rattle.set_core.specs.declared.reply.Reply.{Reply}
use Rattle.set_core.specs.declared.reply.Reply.TheVariants as reply
use Rattle.set_core.specs.Book.{Word, Given, Taken, Silent, word_of_batch, word_of_event, is_named, is_accepted, word, then_said, last_word, is_given, is_taken, rows_given, is_current, with_rows_after, trades_of_event, accepted_trades, starts_at, starts, book}
use Rattle.set_core.specs.Kept.{AreDifferent}
use Rattle.set_core.proofs.Names.{one_name, same_name_refl, same_name_sym}
use Rattle.set_core.proofs.Words.{Log, stays, last_word-push, starts-push}
use Rattle.set_core.proofs.Puts.{renewed_by, renewed, new_in, map_agrees, map-map, map_same, has_trade-map, put_trades_is}

-- ---- which trades an entry names

given_of_batch : (name : List ℕ) (batch : List TradeRows) → has_trade batch name ≡ is_given (word_of_batch name batch)
given_of_batch name [] = refl
given_of_batch name (t ∷ batch) = at (same_name name t.trade) (given_of_batch name batch)
  where
    at : (s : Bool) → has_trade batch name ≡ is_given (word_of_batch name batch) → (s || has_trade batch name) ≡ is_given (cond s (Given t.rows) (word_of_batch name batch))
    at true e = refl
    at false e = e

not_taken_of_batch : (name : List ℕ) (batch : List TradeRows) → is_taken (word_of_batch name batch) ≡ false
not_taken_of_batch name [] = refl
not_taken_of_batch name (t ∷ batch) = at (same_name name t.trade) (not_taken_of_batch name batch)
  where
    at : (s : Bool) → is_taken (word_of_batch name batch) ≡ false → is_taken (cond s (Given t.rows) (word_of_batch name batch)) ≡ false
    at true e = refl
    at false e = e

given_of_event : (name : List ℕ) (e : Event) → has_trade (trades_of_event e) name ≡ is_given (word_of_event name e)
given_of_event name (event.Submit batch) = given_of_batch name batch
given_of_event name (event.Withdraw names) = at (is_named names name)
  where
    at : (s : Bool) → false ≡ is_given (cond s Taken Silent)
    at true = refl
    at false = refl
given_of_event name _ = refl

given_of_entry : (name : List ℕ) (e : Entry Event Reply) → has_trade (accepted_trades e) name ≡ is_given (word name e)
given_of_entry name e = at (is_accepted e.reply) (given_of_event name e.event)
  where
    at : (s : Bool) → has_trade (trades_of_event e.event) name ≡ is_given (word_of_event name e.event) → has_trade (cond s (trades_of_event e.event) []) name ≡ is_given (cond s (word_of_event name e.event) Silent)
    at true g = g
    at false g = refl

-- ---- the names in a book are those that are current

-- a test of a trade's name
filtered_name : (q : List ℕ → Bool) (ts : List TradeRows) (name : List ℕ) → has_trade (filter (λ t. q t.trade) ts) name ≡ (has_trade ts name && q name)
filtered_name q [] name = refl
filtered_name q (t ∷ ts) name = at (q t.trade) (same_name name t.trade) refl refl (filtered_name q ts name)
  where
    known : (s : Bool) → q name ≡ s → (true ≡ s) → true ≡ ((true || has_trade ts name) && q name)
    known s e f = f ∙ sym e

    both : (b c : Bool) → q name ≡ b → b ≡ false → (has_trade ts name && q name) ≡ ((true || has_trade ts name) && q name)
    both b c e f = ap (λ s. has_trade ts name && s) (e ∙ f) ∙ none (has_trade ts name) ∙ sym (e ∙ f)
      where
        none : (s : Bool) → (s && false) ≡ false
        none true = refl
        none false = refl

    at : (b s : Bool) → q t.trade ≡ b → same_name name t.trade ≡ s → has_trade (filter (λ u. q u.trade) ts) name ≡ (has_trade ts name && q name) → has_trade (cond (q t.trade) (t ∷ filter (λ u. q u.trade) ts) (filter (λ u. q u.trade) ts)) name ≡ ((same_name name t.trade || has_trade ts name) && q name)
    at true true e f rest =
        ap (λ c. has_trade (cond c (t ∷ filter (λ u. q u.trade) ts) (filter (λ u. q u.trade) ts)) name) e
        ∙ ap (λ c. c || has_trade (filter (λ u. q u.trade) ts) name) f
        ∙ known true (ap q (one_name name t.trade f) ∙ e) refl
        ∙ ap (λ c. (c || has_trade ts name) && q name) (sym f)
    at true false e f rest =
        ap (λ c. has_trade (cond c (t ∷ filter (λ u. q u.trade) ts) (filter (λ u. q u.trade) ts)) name) e
        ∙ ap (λ c. c || has_trade (filter (λ u. q u.trade) ts) name) f
        ∙ rest
        ∙ ap (λ c. (c || has_trade ts name) && q name) (sym f)
    at false true e f rest =
        ap (λ c. has_trade (cond c (t ∷ filter (λ u. q u.trade) ts) (filter (λ u. q u.trade) ts)) name) e
        ∙ rest
        ∙ both false true (ap q (one_name name t.trade f) ∙ e) refl
        ∙ ap (λ c. (c || has_trade ts name) && q name) (sym f)
    at false false e f rest =
        ap (λ c. has_trade (cond c (t ∷ filter (λ u. q u.trade) ts) (filter (λ u. q u.trade) ts)) name) e
        ∙ rest
        ∙ ap (λ c. (c || has_trade ts name) && q name) (sym f)

current_after : (last w : Word) → ((is_given last && not (is_taken w)) || (is_given w && (not (is_given last) && true))) ≡ is_given (then_said last w)
current_after (Given rows) (Given r) = refl
current_after Taken (Given r) = refl
current_after Silent (Given r) = refl
current_after (Given rows) Taken = refl
current_after Taken Taken = refl
current_after Silent Taken = refl
current_after (Given rows) Silent = refl
current_after Taken Silent = refl
current_after Silent Silent = refl

-- a step at the end of a journal, once more in front of it
started : (before after : Log) → ((name : List ℕ) → has_trade (starts [] before) name ≡ is_current before name) → (e : Entry Event Reply) → (name : List ℕ) → has_trade (starts [] (before ++ e ∷ [])) name ≡ is_current (before ++ e ∷ []) name
started before after h e name =
    ap (λ ts. has_trade ts name) (starts-push [] before e)
    ∙ list_any-append (λ t. same_name name t.trade) (filter (stays e) (starts [] before)) (starts_at before e [])
    ∙ ap (λ s. s || has_trade (starts_at before e []) name) (filtered_name (λ n. not (is_taken (word n e))) (starts [] before) name ∙ ap (λ s. s && not (is_taken (word name e))) (h name))
    ∙ ap (λ s. (is_current before name && not (is_taken (word name e))) || s) (filtered_name (λ n. not (is_current before n) && not false) (accepted_trades e) name ∙ ap (λ s. s && (not (is_current before name) && true)) (given_of_entry name e))
    ∙ current_after (last_word name before) (word name e)
    ∙ ap is_given (sym (last_word-push name before e))

all_started : (before after : Log) → ((name : List ℕ) → has_trade (starts [] before) name ≡ is_current before name) → (name : List ℕ) → has_trade (starts [] (before ++ after)) name ≡ is_current (before ++ after) name
all_started before [] h name = subst (λ log. has_trade (starts [] log) name ≡ is_current log name) (sym (append-nil before)) (h name)
all_started before (e ∷ after) h name =
    subst (λ log. has_trade (starts [] log) name ≡ is_current log name) (append_assoc before (e ∷ []) after)
    (all_started (before ++ e ∷ []) after (started before [] h e) name)

in_starts : (log : Log) (name : List ℕ) → has_trade (starts [] log) name ≡ is_current log name
in_starts log name = all_started [] log (λ n. refl) name

pub in_book : (log : Log) (name : List ℕ) → has_trade (book log) name ≡ is_current log name
in_book log name = has_trade-map (with_rows_after log) (λ t. refl) (starts [] log) name ∙ in_starts log name

-- ---- no trade stands twice

different-filter : (q : List ℕ → Bool) (ts : List TradeRows) → AreDifferent ts → AreDifferent (filter (λ t. q t.trade) ts)
different-filter q [] d = tt
different-filter q (t ∷ ts) d = at (q t.trade) (different-filter q ts d.1)
  where
    at : (s : Bool) → AreDifferent (filter (λ u. q u.trade) ts) → AreDifferent (cond s (t ∷ filter (λ u. q u.trade) ts) (filter (λ u. q u.trade) ts))
    at true rest = (filtered_name q ts t.trade ∙ ap (λ s. s && q t.trade) d.0, rest)
    at false rest = rest

different-append : (ts us : List TradeRows) → AreDifferent ts → AreDifferent us → AllByRecursion (λ t. has_trade us t.trade ≡ false) ts → AreDifferent (ts ++ us)
different-append [] us d e apart = e
different-append (t ∷ ts) us d e apart =
    (list_any-append (λ u. same_name t.trade u.trade) ts us ∙ or_from (has_trade ts t.trade) (has_trade us t.trade) d.0 apart.0, different-append ts us d.1 e apart.1)

-- where one list has only names that the other hasn't
apart_from : (ts us : List TradeRows) → ((name : List ℕ) → has_trade ts name ≡ true → has_trade us name ≡ false) → AllByRecursion (λ t. has_trade us t.trade ≡ false) ts
apart_from [] us h = tt
apart_from (t ∷ ts) us h =
    (h t.trade (ap (λ s. s || has_trade ts t.trade) (same_name_refl t.trade)), apart_from ts us (λ name e. h name (ap (λ s. same_name name t.trade || s) e ∙ or_true (same_name name t.trade))))
  where
    or_true : (s : Bool) → (s || true) ≡ true
    or_true true = refl
    or_true false = refl

and_not : (c s t : Bool) → (c && t) ≡ true → (s && (not c && true)) ≡ false
and_not true true t e = refl
and_not true false t e = refl
and_not false s t e = absurd (false≢true e)

pub starts_different : (log : Log) (e : Entry Event Reply) → AreDifferent (accepted_trades e) → AreDifferent (starts [] log) → AreDifferent (starts [] (log ++ e ∷ []))
starts_different log e batch d = subst AreDifferent (sym (starts-push [] log e))
    (different-append (filter (stays e) (starts [] log)) (starts_at log e [])
    (different-filter (λ n. not (is_taken (word n e))) (starts [] log) d)
    (different-filter (λ n. not (is_current log n) && not false) (accepted_trades e) batch)
    (apart_from (filter (stays e) (starts [] log)) (starts_at log e []) (λ name h.
    filtered_name (λ n. not (is_current log n) && not false) (accepted_trades e) name
    ∙ and_not (is_current log name) (has_trade (accepted_trades e) name) (not (is_taken (word name e)))
    (sym (filtered_name (λ n. not (is_taken (word n e))) (starts [] log) name ∙ ap (λ s. s && not (is_taken (word name e))) (in_starts log name)) ∙ h))))

-- ---- an entry that says nothing

silent_rows : (log : Log) (e : Entry Event Reply) → ((name : List ℕ) → word name e ≡ Silent) → (t : TradeRows) → with_rows_after (log ++ e ∷ []) t ≡ with_rows_after log t
silent_rows log e silent t = ap (λ w. record { trade = t.trade; rows = rows_given w }) (last_word-push t.trade log e ∙ ap (then_said (last_word t.trade log)) (silent t.trade))

nothing_starts : (log : Log) (e : Entry Event Reply) → accepted_trades e ≡ [] → starts_at log e [] ≡ []
nothing_starts log e h = ap (λ ts. filter (λ t. not (is_current log t.trade) && not false) ts) h

pub book-silent : (log : Log) (e : Entry Event Reply) → ((name : List ℕ) → word name e ≡ Silent) → accepted_trades e ≡ [] → book (log ++ e ∷ []) ≡ book log
book-silent log e silent none =
    map_agrees (with_rows_after (log ++ e ∷ [])) (with_rows_after log) (starts [] (log ++ e ∷ [])) (each_always (λ t. with_rows_after (log ++ e ∷ []) t ≡ with_rows_after log t) (silent_rows log e silent) (starts [] (log ++ e ∷ [])))
    ∙ ap (map (with_rows_after log))
    (starts-push [] log e
    ∙ ap (λ ts. filter (stays e) (starts [] log) ++ ts) (nothing_starts log e none)
    ∙ append-nil (filter (stays e) (starts [] log))
    ∙ filter_every (stays e) (starts [] log) (each_always (λ t. stays e t ≡ true) (λ t. ap (λ w. not (is_taken w)) (silent t.trade)) (starts [] log)))

-- ---- a withdrawal that was accepted

without_step : (names : List (List ℕ)) (log : Log) (e : Entry Event Reply) → ((name : List ℕ) → word name e ≡ word_of_event name (event.Withdraw names)) → (ts : List TradeRows) → map (with_rows_after (log ++ e ∷ [])) (filter (stays e) ts) ≡ without names (map (with_rows_after log) ts)
without_step names log e says [] = refl
without_step names log e says (t ∷ ts) = at (is_named names t.trade) refl (without_step names log e says ts)
  where
    says_at : (s : Bool) → is_named names t.trade ≡ s → word t.trade e ≡ cond s Taken Silent
    says_at s h = says t.trade ∙ ap (λ b. cond b Taken Silent) h

    at : (s : Bool) → is_named names t.trade ≡ s → map (with_rows_after (log ++ e ∷ [])) (filter (stays e) ts) ≡ without names (map (with_rows_after log) ts) → map (with_rows_after (log ++ e ∷ [])) (cond (stays e t) (t ∷ filter (stays e) ts) (filter (stays e) ts)) ≡ cond (not (is_named names t.trade)) (with_rows_after log t ∷ without names (map (with_rows_after log) ts)) (without names (map (with_rows_after log) ts))
    at true h rest =
        ap (λ w. map (with_rows_after (log ++ e ∷ [])) (cond (not (is_taken w)) (t ∷ filter (stays e) ts) (filter (stays e) ts))) (says_at true h)
        ∙ rest
        ∙ ap (λ s. cond (not s) (with_rows_after log t ∷ without names (map (with_rows_after log) ts)) (without names (map (with_rows_after log) ts))) (sym h)
    at false h rest =
        ap (λ w. map (with_rows_after (log ++ e ∷ [])) (cond (not (is_taken w)) (t ∷ filter (stays e) ts) (filter (stays e) ts))) (says_at false h)
        ∙ ap (λ w. record { trade = t.trade; rows = rows_given w } ∷ map (with_rows_after (log ++ e ∷ [])) (filter (stays e) ts)) (last_word-push t.trade log e ∙ ap (then_said (last_word t.trade log)) (says_at false h))
        ∙ ap (λ us. with_rows_after log t ∷ us) rest
        ∙ ap (λ s. cond (not s) (with_rows_after log t ∷ without names (map (with_rows_after log) ts)) (without names (map (with_rows_after log) ts))) (sym h)

pub book-withdrawn : (log : Log) (caller : ℕ) (names : List (List ℕ)) → book (log ++ entry caller (event.Withdraw names) reply.Accepted ∷ []) ≡ without names (book log)
book-withdrawn log caller names =
    let e : Entry Event Reply = entry caller (event.Withdraw names) reply.Accepted in
    ap (map (with_rows_after (log ++ e ∷ []))) (starts-push [] log e ∙ append-nil (filter (stays e) (starts [] log)))
    ∙ without_step names log e (λ name. refl) (starts [] log)

-- ---- a submit that was accepted

renewed_rows : (last w : Word) (t : TradeRows) → is_taken w ≡ false → record { trade = t.trade; rows = rows_given (then_said last w) } ≡ renewed_by w (record { trade = t.trade; rows = rows_given last })
renewed_rows last (Given rows) t h = refl
renewed_rows last Taken t h = absurd (true≢false h)
renewed_rows last Silent t h = refl

past_word : (t : TradeRows) (ts us : List TradeRows) → has_trade us t.trade ≡ false → AllByRecursion (λ u. word_of_batch u.trade ts ≡ Given u.rows) us → AllByRecursion (λ u. word_of_batch u.trade (t ∷ ts) ≡ Given u.rows) us
past_word t ts [] h own = tt
past_word t ts (u ∷ us) h own =
    let parts = or_parts (same_name t.trade u.trade) (has_trade us t.trade) h in
    (ap (λ s. cond s (Given t.rows) (word_of_batch u.trade ts)) (same_name_sym u.trade t.trade ∙ parts.0) ∙ own.0, past_word t ts us parts.1 own.1)

own_word : (batch : List TradeRows) → AreDifferent batch → AllByRecursion (λ u. word_of_batch u.trade batch ≡ Given u.rows) batch
own_word [] d = tt
own_word (t ∷ ts) d = (ap (λ s. cond s (Given t.rows) (word_of_batch t.trade ts)) (same_name_refl t.trade), past_word t ts ts d.0 (own_word ts d.1))

own_rows : (log : Log) (e : Entry Event Reply) (t : TradeRows) → word t.trade e ≡ Given t.rows → with_rows_after (log ++ e ∷ []) t ≡ t
own_rows log e t h = ap (λ w. record { trade = t.trade; rows = rows_given w }) (last_word-push t.trade log e ∙ ap (then_said (last_word t.trade log)) h)

and_true : (s : Bool) → s ≡ (s && true)
and_true true = refl
and_true false = refl

pub book-submitted : (log : Log) (caller : ℕ) (batch : List TradeRows) → AreDifferent batch → AreDifferent (book log) → book (log ++ entry caller (event.Submit batch) reply.Accepted ∷ []) ≡ put_trades batch (book log)
book-submitted log caller batch d b =
    let e : Entry Event Reply = entry caller (event.Submit batch) reply.Accepted in
    let after : TradeRows → TradeRows = with_rows_after (log ++ e ∷ []) in
    let stay : filter (stays e) (starts [] log) ≡ starts [] log = filter_every (stays e) (starts [] log) (each_always (λ t. stays e t ≡ true) (λ t. ap not (not_taken_of_batch t.trade batch)) (starts [] log)) in
    let new : starts_at log e [] ≡ new_in (book log) batch = filter_agrees (λ t. not (is_current log t.trade) && not false) (λ t. not (has_trade (book log) t.trade)) batch (each_always (λ t. (not (is_current log t.trade) && not false) ≡ not (has_trade (book log) t.trade)) (λ t. sym (and_true (not (is_current log t.trade))) ∙ ap not (sym (in_book log t.trade))) batch) in
    ap (map after) (starts-push [] log e ∙ ap (λ ts. ts ++ starts_at log e []) stay ∙ ap (λ ts. starts [] log ++ ts) new)
    ∙ map-append after (starts [] log) (new_in (book log) batch)
    ∙ ap (λ ts. ts ++ map after (new_in (book log) batch)) (map_agrees after (λ t. renewed batch (with_rows_after log t)) (starts [] log) (each_always (λ t. after t ≡ renewed batch (with_rows_after log t)) (λ t. ap (λ w. record { trade = t.trade; rows = rows_given w }) (last_word-push t.trade log e) ∙ renewed_rows (last_word t.trade log) (word_of_batch t.trade batch) t (not_taken_of_batch t.trade batch)) (starts [] log)) ∙ sym (map-map (with_rows_after log) (renewed batch) (starts [] log)))
    ∙ ap (λ ts. map (renewed batch) (book log) ++ ts) (map_same after (new_in (book log) batch) (each_weaker (λ t. word_of_batch t.trade batch ≡ Given t.rows) (λ t. after t ≡ t) (λ t h. own_rows log e t h) (new_in (book log) batch) (each_kept (λ t. word_of_batch t.trade batch ≡ Given t.rows) (λ t. not (has_trade (book log) t.trade)) batch (own_word batch d))))
    ∙ sym (put_trades_is batch (book log) d b)
