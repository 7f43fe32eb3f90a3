-- Along a legal journal of a sample each batch is accepted, and the book is all that was submitted.
use Rattle.std.proofs.Common.{◌≡◌, ℕ, ◌+◌, ◌≤◌, Bool, true, false, cond, List, [], ◌∷◌, ◌++◌, length, None, refl, sym, ap, ◌∙◌, subst, arith, append_assoc, append-nil, length-append}
use Rattle.std.specs.List.{AllByRecursion, IsDistinct}
use Rattle.std.proofs.lemmas.Bool.{or_parts, or_from}
use Rattle.std.proofs.lemmas.Grind.{flat_map-append}
use Rattle.book_range.proofs.Lists.{each_append, each_parts}
use Rattle.feed_gate.specs.SetCore.BucketCache.Live.{put_trade, first_unadmitted, is_current as has_trade}
use Rattle.simm_kinds.specs.declared.row.TradeRows.{TradeRows}
use Rattle.simm_kinds.specs.Batch.{rows_of}
use Rattle.simm_kinds.specs.Order.{same_name}
use Rattle.simm_rules.specs.Range.{range}
use Rattle.feed_gate.specs.FeedReader.CsaTerms.Terms.{Agreements}
use Rattle.held_cell.specs.declared.entry.Entry.{Entry}
use Rattle.held_cell.specs.Entries.{entry}
use Rattle.feed_gate.specs.SetCore.declared.event.Event.{Event}
use Rattle.feed_gate.specs.SetCore.declared.event.Event.TheVariants as event
use Rattle.feed_gate.specs.SetCore.declared.reply.Reply.{Reply}
use Rattle.feed_gate.specs.SetCore.declared.reply.Reply.TheVariants as reply
use Rattle.feed_gate.specs.SetCore.Answer.{if_admitted, book_with, answer_by, IsLegal}
use Rattle.feed_gate.specs.SetCore.Book.{Silent, is_accepted, word, trades_of_event, accepted_trades, book}
use Rattle.feed_gate.specs.SetCore.Kept.{AreDifferent}
use Rattle.feed_gate.proofs.SetCore.Books.{book-submitted, book-silent}
use Rattle.feed_gate.proofs.SetCore.Names.{same_name_sym}
use Rattle.house_sample.specs.Parameters.{sample_params}
use Rattle.house_sample.specs.Trades.{rows_from, row_from}
use Rattle.house_sample.proofs.InRange.{IsDrawn, drawn_in_range}
use Rattle.house_sample.proofs.AllTrades.{same_trade}
use Rattle.margin_sample.specs.Sets.{IsTaken}
use Rattle.margin_sample.proofs.Journals.{Log, IsCall, same_tables, trades_in}

-- ---- trades of different names

-- a trade has another name than those before it
fresh : (ts us : List TradeRows) (u : TradeRows) → IsDistinct same_trade (ts ++ u ∷ us) → has_trade ts u.trade ≡ false
unfolding IsDistinct
fresh [] us u d = refl
fresh (t ∷ ts) us u d =
    or_from (same_name u.trade t.trade) (has_trade ts u.trade)
    (same_name_sym u.trade t.trade ∙ (each_parts (λ v. same_trade t v ≡ false) ts (u ∷ us) d.0).1.0) (fresh ts us u d.1)

front_different : (ts us : List TradeRows) → IsDistinct same_trade (ts ++ us) → AreDifferent ts
unfolding IsDistinct
front_different [] us d = tt
front_different (t ∷ ts) us d = (none ts (each_parts (λ v. same_trade t v ≡ false) ts us d.0).0, front_different ts us d.1)
  where
    none : (vs : List TradeRows) → AllByRecursion (λ v. same_trade t v ≡ false) vs → has_trade vs t.trade ≡ false
    none [] h = refl
    none (v ∷ vs) h = or_from (same_name t.trade v.trade) (has_trade vs t.trade) h.0 (none vs h.1)

put_last : (u : TradeRows) (ts : List TradeRows) → has_trade ts u.trade ≡ false → put_trade u ts ≡ ts ++ u ∷ []
put_last u [] h = refl
put_last u (t ∷ ts) h =
    let parts = or_parts (same_name u.trade t.trade) (has_trade ts u.trade) h in
    ap (λ s. cond s (record t { rows = u.rows } ∷ ts) (t ∷ put_trade u ts)) parts.0 ∙ ap (λ vs. t ∷ vs) (put_last u ts parts.1)

-- ---- one batch

admitted : (u : TradeRows) → IsDrawn u → first_unadmitted sample_params (u ∷ []) ≡ None
unfolding rows_from row_from
admitted u drawn = subst (λ rows. first_unadmitted sample_params (record { trade = u.trade; rows = rows } ∷ []) ≡ None) (sym drawn.rows) (known drawn.state)
  where
    known : (x : ℕ) → first_unadmitted sample_params (record { trade = u.trade; rows = rows_from x } ∷ []) ≡ None
    known x = refl

-- what an entry leaves of a journal whose book is all that was submitted
record Next (before : Log) (e : Entry Event Reply) : Type 0 where
  taken : IsTaken e
  held : book (before ++ e ∷ []) ≡ trades_in before ++ trades_of_event e.event

module _ (t : Agreements) (before : Log) (is : book before ≡ trades_in before) where
  put_in : (caller : ℕ) (u : TradeRows) → has_trade (trades_in before) u.trade ≡ false → AreDifferent (trades_in before)
      → book (before ++ entry caller (event.Submit (u ∷ [])) reply.Accepted ∷ []) ≡ trades_in before ++ u ∷ []
  put_in caller u new different =
      book-submitted before caller (u ∷ []) (refl, tt) (subst AreDifferent (sym is) different)
      ∙ ap (put_trade u) is ∙ put_last u (trades_in before) new

  submitted : (caller : ℕ) (u : TradeRows) (r : Reply) → r ≡ answer_by sample_params t before (event.Submit (u ∷ [])) → IsDrawn u → has_trade (trades_in before) u.trade ≡ false → AreDifferent (trades_in before)
      → AllByRecursion IsDrawn (trades_in before) → length (trades_in before) + 1 ≤ 800 → Next before (entry caller (event.Submit (u ∷ [])) r)
  submitted caller u r right drawn new different all_drawn few =
      let after : List TradeRows = trades_in before ++ u ∷ [] in
      let in_range : range sample_params (rows_of (book_with before (event.Submit (u ∷ [])))) ≡ None =
      ap (λ ts. range sample_params (rows_of ts)) (put_in 0 u new different)
      ∙ drawn_in_range after (each_append IsDrawn (trades_in before) (u ∷ []) all_drawn (drawn, tt)) (omega (arith, few, length-append (trades_in before) (u ∷ []))) in
      let accepted : r ≡ reply.Accepted = right ∙ (λ i. if_admitted (admitted u drawn i) (in_range i)) in
      record {
        taken = accepted;
        held = ap (λ x. book (before ++ entry caller (event.Submit (u ∷ [])) x ∷ [])) accepted ∙ put_in caller u new different;
      }

  silent : (e : Entry Event Reply) → ((name : List ℕ) → word name e ≡ Silent) → accepted_trades e ≡ [] → trades_of_event e.event ≡ [] → book (before ++ e ∷ []) ≡ trades_in before ++ trades_of_event e.event
  silent e says none gives = book-silent before e says none ∙ is ∙ sym (append-nil (trades_in before)) ∙ ap (λ ts. trades_in before ++ ts) (sym gives)

  next : (caller : ℕ) (e : Event) (r : Reply) (after : List TradeRows) → IsCall e → r ≡ answer_by sample_params t before e → IsDistinct same_trade (trades_in before ++ (trades_of_event e ++ after))
      → AllByRecursion IsDrawn (trades_in before) → length (trades_in before ++ (trades_of_event e ++ after)) ≤ 800 → Next before (entry caller e r)
  next caller (event.Submit trades) r after call right distinct drawn few =
      let same = sym call.is in
      subst (λ ts. Next before (entry caller (event.Submit ts) r)) same
      (submitted caller call.trade r (subst (λ ts. r ≡ answer_by sample_params t before (event.Submit ts)) call.is right) call.drawn
      (fresh (trades_in before) after call.trade (subst (λ ts. IsDistinct same_trade (trades_in before ++ (ts ++ after))) call.is distinct))
      (front_different (trades_in before) (trades ++ after) distinct) drawn
      (omega (arith, few, length-append (trades_in before) (trades ++ after), length-append trades after, ap length call.is)))
  next caller (event.Withdraw names) r after call right distinct drawn few = absurd call
  next caller (event.Tables text) r after call right distinct drawn few = absurd call
  next caller (event.OnSide on e) r after call right distinct drawn few = record {
    taken = tt;
    held = silent (entry caller (event.OnSide on e) r) (λ name. no_word (is_accepted r)) (no_trades (is_accepted r)) refl;
  }
    where
      no_word : (b : Bool) → cond b Silent Silent ≡ Silent
      no_word true = refl
      no_word false = refl

      no_trades : (b : Bool) → cond {A = List TradeRows} b [] [] ≡ []
      no_trades true = refl
      no_trades false = refl

-- ---- a whole journal

pub record AllTaken (log : Log) : Type 0 where
  pub taken : AllByRecursion IsTaken log
  pub held : book log ≡ trades_in log

module _ (t : Agreements) (log : Log) (legal : IsLegal sample_params t log) (calls : AllByRecursion (λ e. IsCall e.event) log) where
  trades_behind : (before : Log) (e : Entry Event Reply) → trades_in (before ++ e ∷ []) ≡ trades_in before ++ trades_of_event e.event
  trades_behind before e =
      flat_map-append (λ (x : Entry Event Reply). trades_of_event x.event) before (e ∷ []) ∙ ap (λ ts. trades_in before ++ ts) (append-nil (trades_of_event e.event))

  -- behind a part of it
  along : (before after : Log) → log ≡ before ++ after → AllByRecursion IsTaken before → book before ≡ trades_in before
      → IsDistinct same_trade (trades_in before ++ trades_in after) → AllByRecursion IsDrawn (trades_in before) → length (trades_in before ++ trades_in after) ≤ 800 → AllTaken log
  along before [] whole taken is distinct drawn few = subst AllTaken (sym (whole ∙ append-nil before)) (record { taken = taken; held = is })
  along before (e ∷ after) whole taken is distinct drawn few =
      let parts = each_parts (λ (x : Entry Event Reply). IsCall x.event) before (e ∷ after) (subst (AllByRecursion (λ x. IsCall x.event)) whole calls) in
      let call : IsCall e.event = parts.1.0 in
      let right : e.reply ≡ answer_by sample_params t before e.event =
      legal before after e whole ∙ ap (λ q. answer_by q t before e.event) (same_tables sample_params before parts.0) in
      let now = next t before is e.caller e.event e.reply (trades_in after) call right distinct drawn few in
      let more = trades_behind before e in
      let rest : trades_in before ++ (trades_of_event e.event ++ trades_in after) ≡ trades_in (before ++ e ∷ []) ++ trades_in after =
      sym (append_assoc (trades_in before) (trades_of_event e.event) (trades_in after)) ∙ ap (λ ts. ts ++ trades_in after) (sym more) in
      along (before ++ e ∷ []) after (whole ∙ sym (append_assoc before (e ∷ []) after))
      (each_append IsTaken before (e ∷ []) taken (now.taken, tt)) (now.held ∙ sym more)
      (subst (IsDistinct same_trade) rest distinct)
      (subst (AllByRecursion IsDrawn) (sym more) (each_append IsDrawn (trades_in before) (trades_of_event e.event) drawn (call_drawn e.event call)))
      (subst (λ ts. length ts ≤ 800) rest few)
    where
      call_drawn : (ev : Event) → IsCall ev → AllByRecursion IsDrawn (trades_of_event ev)
      call_drawn (event.Submit trades) call = subst (AllByRecursion IsDrawn) (sym call.is) (call.drawn, tt)
      call_drawn (event.Withdraw names) call = absurd call
      call_drawn (event.Tables text) call = absurd call
      call_drawn (event.OnSide on ev) call = tt

  pub all_taken : IsDistinct same_trade (trades_in log) → length (trades_in log) ≤ 800 → AllTaken log
  all_taken distinct few = along [] log refl tt refl distinct tt few
