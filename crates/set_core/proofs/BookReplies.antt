-- The reply to a change of the book, or of its tables: it is the answer, and says what the change left.
use Rattle.std.proofs.Common.{◌≡◌, ℕ, Option, None, Some, Result, Ok, Err, OnOk, OnErr, IsErr, refl, sym, ap, ◌∙◌, subst}
use Rattle.std.proofs.lemmas.Bool.{true≢false}
use Rattle.bucket_cache.specs.SimmRules.declared.values.RangeFault.{RangeFault}
use Rattle.bucket_cache.specs.declared.fault.BookFault.{BookFault}
use Rattle.bucket_cache.specs.declared.fault.BookFault.TheVariants as fault
use Rattle.bucket_cache.specs.declared.place.RowPlace.{RowPlace}
use Rattle.bucket_cache.specs.Live.{Live}
use Rattle.set_core.specs.declared.event.Event.{Event}
use Rattle.set_core.specs.declared.ledgers.Ledgers.{Ledgers}
use Rattle.set_core.specs.declared.reply.Reply.{Reply}
use Rattle.set_core.specs.declared.reply.Reply.TheVariants as reply
use Rattle.set_core.specs.declared.refusal.Refusal.{Refusal}
use Rattle.set_core.specs.declared.refusal.Refusal.TheVariants as refusal
use Rattle.set_core.specs.Answer.{if_in_range, if_admitted}
use Rattle.set_core.specs.Ledger.{ledgers_after}
use Rattle.set_core.specs.Live.{Traded, traded, live_reply, live_book, live_params, BookReplies, Does, Caches}
use Rattle.set_core.proofs.Caching.{caches_refused}

abbrev pub Change : Type 0
Change = Result (Unit {0}) BookFault

-- why a change was refused: at a row that isn't admitted, or else for the range
pub record IsRefusedFor (at : Option RowPlace) (range : Option RangeFault) (change : Change) : Type 0 where
  pub admitted : OnOk change (at ≡ None)
  pub in_range : OnOk change (range ≡ None)
  pub unadmitted : (trade row : ℕ) → change ≡ Err (fault.BucketUnknown trade row) → at ≡ Some (record { trade = trade; row = row })
  pub above : (f : RangeFault) → change ≡ Err (fault.Range f) → range ≡ Some f
  pub of_admitted : (f : RangeFault) → change ≡ Err (fault.Range f) → at ≡ None

reply_is : (at : Option RowPlace) (range : Option RangeFault) (change : Change) → IsRefusedFor at range change → (r : Reply) → BookReplies change r → r ≡ if_admitted at range
reply_is at range (Ok _) for r h = h ∙ ap if_in_range (sym for.in_range) ∙ ap (λ o. if_admitted o range) (sym for.admitted)
reply_is at range (Err (fault.BucketUnknown trade row)) for r h = h ∙ ap (λ o. if_admitted o range) (sym (for.unadmitted trade row refl))
reply_is at range (Err (fault.Range f)) for r h = h ∙ ap if_in_range (sym (for.above f refl)) ∙ ap (λ o. if_admitted o range) (sym (for.of_admitted f refl))
reply_is at range (Err fault.Memory) for r h = absurd h

-- what a set has of its trades after an event and its reply
abbrev pub left_by : Live → Event → Reply → Traded
left_by old e r = record { params = live_params old.params e r; book = live_book old.book e r }

-- an event that leaves the ledgers, and where it is refused the trades
pub record LeavesLedgers (old : Live) (h : Ledgers) (e : Event) : Type 0 where
  pub made : h ≡ ledgers_after h e reply.Accepted
  pub refused : (why : Refusal) → h ≡ ledgers_after h e (reply.Refused why)
  pub trades : (why : Refusal) → traded old ≡ left_by old e (reply.Refused why)

module _ (old new : Live) (e : Event) (h : Ledgers) (leaves : LeavesLedgers old h e) where
  by_refusal : (why : Refusal) (r : Reply) → r ≡ live_reply (traded old) h e → new ≡ old → r ≡ reply.Refused why → Does (traded old) (traded new) h h e r
  by_refusal why r value same is = record {
    value = value;
    live = ap traded same ∙ leaves.trades why ∙ ap (left_by old e) (sym is);
    ledger = leaves.refused why ∙ ap (ledgers_after h e) (sym is);
  }

  pub change_does : (at : Option RowPlace) (range : Option RangeFault) (change : Change) → IsRefusedFor at range change → live_reply (traded old) h e ≡ if_admitted at range
      → OnOk change (traded new ≡ left_by old e reply.Accepted) → OnErr change (new ≡ old) → (r : Reply) → BookReplies change r → Does (traded old) (traded new) h h e r
  change_does at range (Ok x) for asked made same r is = record {
    value = reply_is at range (Ok x) for r is ∙ sym asked;
    live = made ∙ ap (left_by old e) (sym is);
    ledger = leaves.made ∙ ap (ledgers_after h e) (sym is);
  }
  change_does at range (Err (fault.BucketUnknown trade row)) for asked made same r is =
      by_refusal (refusal.BucketUnknown trade row) r (reply_is at range (Err (fault.BucketUnknown trade row)) for r is ∙ sym asked) same is
  change_does at range (Err (fault.Range f)) for asked made same r is = by_refusal (refusal.Range f) r (reply_is at range (Err (fault.Range f)) for r is ∙ sym asked) same is
  change_does at range (Err fault.Memory) for asked made same r is = absurd is

-- what is kept after it
pub change_caches : (old new : Live) (e : Event) (change : Change) → OnOk change (Caches old new e reply.Accepted) → OnErr change (new ≡ old) → (r : Reply) → BookReplies change r → Caches old new e r
change_caches old new e (Ok _) made same r is = subst (Caches old new e) (sym is) made
change_caches old new e (Err (fault.BucketUnknown trade row)) made same r is = subst (Caches old new e) (sym is) (caches_refused old new e (refusal.BucketUnknown trade row) same)
change_caches old new e (Err (fault.Range f)) made same r is = subst (Caches old new e) (sym is) (caches_refused old new e (refusal.Range f) same)
change_caches old new e (Err fault.Memory) made same r is = absurd is

-- where there is no reply, nothing changed
pub unchanged : {T E : Type 0} (change : Change) (result : Result T E) (P : Type 0) → OnErr result (IsErr change) → OnErr change P → OnErr result P
unchanged change (Ok x) P failed same = tt
unchanged (Ok _) (Err e) P failed same = absurd (true≢false (sym failed))
unchanged (Err f) (Err e) P failed same = same
