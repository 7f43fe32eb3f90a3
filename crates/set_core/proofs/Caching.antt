-- What a live margin has kept, after one event more.
use Rattle.std.proofs.Common.{◌≡◌, ℕ, List, [], ◌∷◌, ◌++◌, Bool, true, false, ◌&&◌, not, Option, Some, None, Result, Ok, Err, IfOk, OnOk, OnErr, refl, sym, ap, ◌∙◌, subst, append_assoc, append-nil}
use Rattle.std.proofs.lemmas.Bool.{and_parts, false≢true, true≢false}
use Rattle.std.specs.declared.alloc.AllocError.{AllocError}
use Rattle.collateral_ledger.specs.SimmKinds.declared.margin_side.MarginSide.{MarginSide}
use Rattle.collateral_ledger.specs.SimmKinds.declared.row.CrifRow.{CrifRow}
use Rattle.collateral_ledger.specs.SimmKinds.declared.row.TradeRows.{TradeRows}
use Rattle.collateral_ledger.specs.SimmKinds.Batch.{rows_of}
use Rattle.bucket_cache.specs.SimmRules.declared.values.Breakdown.{Breakdown}
use Rattle.bucket_cache.specs.SimmRules.Params.{Params}
use Rattle.collateral_ledger.specs.CsaTerms.Terms.{Agreements}
use Rattle.bucket_cache.specs.FactorBook.Factors.{factors_of}
use Rattle.bucket_cache.specs.FactorBook.Places.{factors_at}
use Rattle.bucket_cache.specs.FactorBook.declared.address.Address.{Address}
use Rattle.bucket_cache.specs.FactorBook.declared.place.Place.{Place}
use Rattle.bucket_cache.specs.FactorBook.declared.value.PlaceValue.{PlaceValue}
use Rattle.bucket_cache.specs.KeptBuckets.Touched.{Forgets, SameElsewhere}
use Rattle.bucket_cache.specs.Cached.{touches, is_cached, IsCached}
use Rattle.bucket_cache.specs.Live.{Live}
use Rattle.bucket_cache.proofs.Standing.{elsewhere_cached, cached_untouched}
use Rattle.collateral_ledger.specs.declared.fault.LedgerFault.{LedgerFault}
use Rattle.collateral_ledger.specs.Holdings.{Holdings}
use Rattle.held_cell.specs.declared.entry.Entry.{Entry}
use Rattle.held_cell.specs.Entries.{entry}
use Rattle.params_file.specs.Texts.{ParamText}
use Rattle.side_events.specs.declared.side_event.SideEvent.{SideEvent}
use Rattle.set_core.specs.declared.event.Event.{Event}
use Rattle.set_core.specs.declared.event.Event.TheVariants as event
use Rattle.set_core.specs.declared.reply.Reply.{Reply}
use Rattle.set_core.specs.declared.reply.Reply.TheVariants as reply
use Rattle.set_core.specs.declared.refusal.Refusal.{Refusal}
use Rattle.set_core.specs.Book.{book}
use Rattle.set_core.specs.Set.{Set, KeepsMore}
use Rattle.set_core.specs.Cached.{touched_by, touches_margin, is_kept, is_known, known_after, is_margin_known, is_value_known, AreCached}
use Rattle.set_core.specs.Ledger.{refusal_of, if_allowed, ledger_reply}
use Rattle.set_core.specs.Live.{Traded, traded, side_reply, DoesOn, IsWorkedOut, StaysKept, Carries, IfAsked, Caches}
use Rattle.set_core.proofs.Applies.{is_settled}
use Rattle.set_core.proofs.Words.{Log}

-- ---- one event

pub stays_same : (old new : Live) → new ≡ old → StaysKept old new
stays_same old new same = subst (StaysKept old) (sym same) (record { fresh = λ h. h; kept = λ place h. h; cached = λ place h. h })

-- a question that is answered is neither accepted nor refused
asked_is : (was touched there : Bool) (r : Reply) → is_settled r ≡ false → is_kept was touched there r ≡ there
asked_is was touched there reply.Accepted h = absurd (true≢false h)
asked_is was touched there (reply.Refused why) h = absurd (true≢false h)
asked_is was touched there (reply.Margin b) h = refl
asked_is was touched there (reply.Called note) h = refl
asked_is was touched there (reply.NoCall excess margin booked) h = refl

if_asked : (r : Reply) (P : Type 0) → P → IfAsked r P
if_asked reply.Accepted P h = tt
if_asked (reply.Refused why) P h = tt
if_asked (reply.Margin b) P h = h
if_asked (reply.Called note) P h = h
if_asked (reply.NoCall excess margin booked) P h = h

pub caches_all : (old new : Live) (e : Event) (r : Reply) → is_settled r ≡ false → traded new ≡ traded old → IsWorkedOut new → StaysKept old new → Caches old new e r
caches_all old new e r asked same out stays = record {
  fresh = out.fresh ∙ sym (asked_is old.is_fresh (touches_margin e) true r asked);
  cached = λ place.
      out.cached place ∙ ap (λ (l : Traded). touches place (rows_of l.book)) same
      ∙ sym (asked_is (is_cached old.kept.values place) (touched_by place old.book e) (touches place (rows_of old.book)) r asked);
  kept = λ place was h known. out.kept place;
  asked = if_asked r (StaysKept old new) stays;
}

-- what is answered by a margin is worked out
pub margin_stays : (old new : Live) (e : Event) (r : Reply) → (b : Breakdown) × (r ≡ reply.Margin b) → Caches old new e r → StaysKept old new
margin_stays old new e r is caches = (subst (Caches old new e) is.1 caches).asked

pub caches_refused : (old new : Live) (e : Event) (why : Refusal) → new ≡ old → Caches old new e (reply.Refused why)
caches_refused old new e why same =
    let stays = stays_same old new same in
    record {
      fresh = ap (λ (l : Live). l.is_fresh) same;
      cached = λ place. ap (λ (l : Live). is_cached l.kept.values place) same;
      kept = λ place was h known. stays.kept place (h known);
      asked = tt;
    }

untouched : (b : Bool) → not b ≡ true → b ≡ false
untouched true h = absurd (false≢true h)
untouched false h = refl

and_false : (b : Bool) → (b && false) ≡ false
and_false true = refl
and_false false = refl

and_true : (b : Bool) → (b && true) ≡ b
and_true true = refl
and_true false = refl

-- rows are moved
pub caches_moved : (old new : Live) (e : Event) (rows : List CrifRow) → touches_margin e ≡ true → ((place : Place) → touched_by place old.book e ≡ touches place rows)
    → new.is_fresh ≡ false → Forgets rows old.kept new.kept → SameElsewhere rows (factors_of (rows_of old.book)) (factors_of (rows_of new.book)) → Caches old new e reply.Accepted
caches_moved old new e rows moves touched stale forgets same = record {
  fresh = stale ∙ sym (ap (λ b. old.is_fresh && not b) moves ∙ and_false old.is_fresh);
  cached = λ place. cached_untouched rows old.kept new.kept forgets place ∙ ap (λ b. is_cached old.kept.values place && not b) (sym (touched place));
  kept = λ place was h known.
      let parts = and_parts was (not (touched_by place old.book e)) known in
      elsewhere_cached old new rows forgets same place (sym (touched place) ∙ untouched (touched_by place old.book e) parts.1) (h parts.0);
  asked = tt;
}

none_cached : (place : Place) → is_cached [] place ≡ false
none_cached place = refl

-- tables are replaced
pub caches_none : (old new : Live) (text : ParamText) → new.is_fresh ≡ false → new.kept.values ≡ [] → Caches old new (event.Tables text) reply.Accepted
caches_none old new text stale none = record {
  fresh = stale ∙ sym (and_false old.is_fresh);
  cached = λ place. ap (λ (values : List (Address × PlaceValue)). is_cached values place) none ∙ none_cached place ∙ sym (and_false (is_cached old.kept.values place));
  kept = λ place was h known. absurd (false≢true (sym (and_false was) ∙ known));
  asked = tt;
}

-- the live margin is left alone
carries : (Known : Live → Type 0) (touched : Bool) (live : Live) (r : Reply) → is_settled r ≡ true → Carries Known touched live live r
carries Known touched live reply.Accepted settled was h known = h (and_parts was (not touched) known).0
carries Known touched live (reply.Refused why) settled was h known = h known
carries Known touched live (reply.Margin b) settled was h known = absurd (false≢true settled)
carries Known touched live (reply.Called note) settled was h known = absurd (false≢true settled)
carries Known touched live (reply.NoCall excess margin booked) settled was h known = absurd (false≢true settled)

left : (was touched there : Bool) (r : Reply) → is_settled r ≡ true → touched ≡ false → was ≡ is_kept was touched there r
left was touched there reply.Accepted settled none = sym (ap (λ t. was && not t) none ∙ and_true was)
left was touched there (reply.Refused why) settled none = refl
left was touched there (reply.Margin b) settled none = absurd (false≢true settled)
left was touched there (reply.Called note) settled none = absurd (false≢true settled)
left was touched there (reply.NoCall excess margin booked) settled none = absurd (false≢true settled)

unless_asked : (r : Reply) (P : Type 0) → is_settled r ≡ true → IfAsked r P
unless_asked reply.Accepted P settled = tt
unless_asked (reply.Refused why) P settled = tt
unless_asked (reply.Margin b) P settled = absurd (false≢true settled)
unless_asked (reply.Called note) P settled = absurd (false≢true settled)
unless_asked (reply.NoCall excess margin booked) P settled = absurd (false≢true settled)

allowed_settled : (why : Option Refusal) → is_settled (if_allowed why) ≡ true
allowed_settled None = refl
allowed_settled (Some why) = refl

pub ledger_settled : (fault : Option LedgerFault) → is_settled (ledger_reply fault) ≡ true
ledger_settled None = refl
ledger_settled (Some f) = allowed_settled (refusal_of f)

-- an event of a side
pub caches_beside : (on : MarginSide) (old new : Holdings) (live : Live) (e : SideEvent) (result : Result Reply AllocError)
    → is_settled (side_reply (traded live) old on e) ≡ true → IfOk result (λ r. (on : MarginSide) (m : Traded) → DoesOn on m m old new e r) → IfOk result (Caches live live (event.OnSide on e))
caches_beside on old new live e (Err _) settled is = tt
caches_beside on old new live e (Ok r) settled is =
    let so : is_settled r ≡ true = ap is_settled (is on (traded live)).value ∙ settled in
    record {
      fresh = left live.is_fresh false true r so refl;
      cached = λ place. left (is_cached live.kept.values place) false (touches place (rows_of live.book)) r so refl;
      kept = λ place. carries (IsCached place) false live r so;
      asked = unless_asked r (StaysKept live live) so;
    }

-- ---- results

pub both_so : {T E : Type 0} (result : Result T E) (P Q R : Type 0) → OnOk result P → OnOk result Q → (P → Q → R) → OnOk result R
both_so (Ok x) P Q R p q h = h p q
both_so (Err e) P Q R p q h = tt

pub three_so : {T E : Type 0} (result : Result T E) (P Q R S : Type 0) → OnOk result P → OnOk result Q → OnOk result R → (P → Q → R → S) → OnOk result S
three_so (Ok x) P Q R S p q r h = h p q r
three_so (Err e) P Q R S p q r h = tt

pub either_so : {T E : Type 0} (result : Result T E) (P Q R : Type 0) → OnOk result P → OnErr result Q → (P → R) → (Q → R) → R
either_so (Ok x) P Q R p q ok err = ok p
either_so (Err e) P Q R p q ok err = err q

-- ---- a journal

known_push : (touched : List TradeRows → Event → Bool) (was : Bool) (before log : Log) (e : Entry Event Reply)
    → known_after touched was before (log ++ e ∷ []) ≡ is_known (known_after touched was before log) (touched (book (before ++ log)) e.event) e.reply
known_push touched was before [] e = ap (λ (l : Log). is_known was (touched (book l) e.event) e.reply) (sym (append-nil before))
known_push touched was before (x ∷ log) e =
    let now = is_known was (touched (book before) x.event) x.reply in
    known_push touched now (before ++ x ∷ []) log e
    ∙ ap (λ (l : Log). is_known (known_after touched now (before ++ x ∷ []) log) (touched (book l) e.event) e.reply) (append_assoc before (x ∷ []) log)

-- what was known of a margin that was known
known_from : (was old touched : Bool) (r : Reply) → (was ≡ true → old ≡ true) → is_known was touched r ≡ true → is_known old touched r ≡ true
known_from was old touched reply.Accepted h known =
    let parts = and_parts was (not touched) known in
    (λ i. h parts.0 i && parts.1 i)
known_from was old touched (reply.Refused why) h known = h known
known_from was old touched (reply.Margin b) h known = refl
known_from was old touched (reply.Called note) h known = refl
known_from was old touched (reply.NoCall excess margin booked) h known = refl

pub cached_next : (old new : Live) (caller : ℕ) (log : Log) (e : Event) (r : Reply) → old.book ≡ book log → AreCached old log → Caches old new e r → AreCached new (log ++ entry caller e r ∷ [])
cached_next old new caller log e r same cached caches = record {
  fresh = λ known.
      caches.fresh
      ∙ known_from (is_margin_known log) old.is_fresh (touches_margin e) r cached.fresh (sym (known_push (λ trades event. touches_margin event) true [] log (entry caller e r)) ∙ known);
  kept = λ place known.
      caches.kept place (is_value_known place log) (cached.kept place)
      (ap (λ trades. is_known (is_value_known place log) (touched_by place trades e) r) same
      ∙ sym (known_push (touched_by place) true [] log (entry caller e r)) ∙ known);
}

pub cached_still : (old new : Live) (log : Log) → AreCached old log → StaysKept old new → AreCached new log
cached_still old new log cached stays = record { fresh = λ known. stays.fresh (cached.fresh known); kept = λ place known. stays.kept place (cached.kept place known) }

pub cached_none : (live : Live) → live.book ≡ [] → live.is_fresh ≡ true → AreCached live []
cached_none live none fresh = record {
  fresh = λ known. fresh;
  kept = λ place known some. absurd (some (ap (λ (trades : List TradeRows). factors_at place (factors_of (rows_of trades))) none));
}

-- ---- a set

abbrev pub seen : Params → Live → Agreements → Log → ℕ → Set
seen p live t log spare = record { params = p; terms = t; journal = log; is_fresh = live.is_fresh; kept = live.kept.values; spare = spare }

pub keeps_more : (old : Set) (p : Params) (was new : Live) (t u : Agreements) (log longer : Log) (spare : ℕ) → seen p was t log spare ≡ old → u ≡ t → longer ≡ log → StaysKept was new → KeepsMore old (seen p new u longer spare)
keeps_more old p was new t u log longer spare is terms journal stays =
    subst (λ (s : Set). KeepsMore s (seen p new u longer spare)) is (record {
      stands = λ i. record { params = p; terms = terms i; journal = journal i; is_fresh = new.is_fresh; kept = new.kept.values; spare = spare };
      fresh = stays.fresh;
      cached = stays.cached;
    })
