use Rattle.std.proofs.Common.{◌≡◌, ◌∙◌, is_some, Some, Result, Ok, Err, OnErr, refl, ap, sym, subst}
use Rattle.book_margin.specs.SimmKinds.Batch.{rows_of}
use Rattle.book_margin.specs.SimmRules.declared.values.RangeFault.{RangeFault}
use Rattle.book_margin.specs.SimmRules.Range.{range}
use Rattle.book_margin.specs.FactorBook.Factors.{factors_of}
use Rattle.book_margin.specs.KeptBuckets.Touched.{Forgets, SameElsewhere}
use Rattle.bucket_cache.specs.declared.fault.BookFault.{BookFault}
use Rattle.bucket_cache.specs.declared.fault.BookFault.TheVariants as fault
use Rattle.bucket_cache.specs.Live.{Live, put_trades, rows_moved}
use Rattle.bucket_cache.specs.Entries.{trades_of}
use Rattle.bucket_cache.proofs.Keeping.{on_some, on_none, seen_still, held_still, summed_still, held_after}
use Rattle.bucket_cache.proofs.live.LiveMargin.submit.Goals as goal

always : {T E : Type 0} (r : Result T E) (P : Type 0) → P → OnErr r P
always (Ok x) P h = tt
always (Err e) P h = h

same_fault : {T : Type 0} (one other : RangeFault) → ◌≡◌ {A = Result T BookFault} (Err (fault.Range one)) (Err (fault.Range other)) → one ≡ other
same_fault one other h = cc

pub invariant_of-self : goal.invariant_of-self
invariant_of-self c = held_still c.self.inside.params c.self.inside.last c.reserve.ensures.entries refl refl c.self.invariant

pub returns-in_err-reserve-clause-unchanged : goal.returns-in_err-reserve-clause-unchanged
returns-in_err-reserve-clause-unchanged c =
    always c.from_residual-in_err-reserve.result _ (seen_still c.self.inside.params (is_some c.self.inside.last) c.reserve.ensures.entries refl ∙ c.self.view_is)

pub take_in-requires-clause-book : goal.take_in-requires-clause-book
take_in-requires-clause-book c = summed_still c.self.inside.params (ap trades_of c.reserve.ensures.entries) c.self.invariant.summed

pub invariant_of-self-in_err-fault : goal.invariant_of-self-in_err-fault
invariant_of-self-in_err-fault c =
    held_still c.self.inside.params c.self.inside.last c.reserve.ensures.entries c.in_err-fault.ensures.unchanged_sums c.in_err-fault.ensures.unchanged_kept c.self.invariant

pub returns-in_err-fault-clause-unchanged : goal.returns-in_err-fault-clause-unchanged
returns-in_err-fault-clause-unchanged c =
    always c.from_residual-in_err-fault.result _
    (seen_still c.self.inside.params (is_some c.self.inside.last) c.reserve.ensures.entries c.in_err-fault.ensures.unchanged_kept ∙ c.self.view_is)

pub invariant_of-self-in-Some-fault : goal.invariant_of-self-in-Some-fault
invariant_of-self-in-Some-fault c =
    held_still c.self.inside.params c.self.inside.last c.reserve.ensures.entries
    (on_some c.in_ok-fault.fault _ _ c.in-Some-fault.is c.in_ok-fault.ensures.refused_sums) (on_some c.in_ok-fault.fault _ _ c.in-Some-fault.is c.in_ok-fault.ensures.refused_kept) c.self.invariant

pub returns-in-Some-fault-clause-range : goal.returns-in-Some-fault-clause-range
returns-in-Some-fault-clause-range c = λ fault is.
    sym (ap (λ (l : Live). range l.params (rows_of (put_trades c.args.batch.now l.book))) (seen_still c.self.inside.params (is_some c.self.inside.last) c.reserve.ensures.entries refl ∙ c.self.view_is))
    ∙ sym (rw c.trades-trades.ensures.value at c.in_ok-fault.ensures.range) ∙ c.in-Some-fault.is ∙ ap Some (same_fault c.in-Some-fault.fault fault is)

pub returns-in-Some-fault-clause-unchanged : goal.returns-in-Some-fault-clause-unchanged
returns-in-Some-fault-clause-unchanged c =
    seen_still c.self.inside.params (is_some c.self.inside.last) c.reserve.ensures.entries (on_some c.in_ok-fault.fault _ _ c.in-Some-fault.is c.in_ok-fault.ensures.refused_kept) ∙ c.self.view_is

pub invariant_of-self-2 : goal.invariant_of-self-2
invariant_of-self-2 c =
    let us = trades_of c.reserve.new.self.entries in
    held_after c.self.inside.params c.args.batch.now us _ c.self.inside.kept _ (rows_of us) (rows_moved c.args.batch.now us) _ c.trades-trades.ensures.batch (sym (rw c.trades-trades.ensures.value at c.first_unadmitted.ensures) ∙ c.in_default.is)
    (summed_still c.self.inside.params (ap trades_of c.reserve.ensures.entries) c.self.invariant.summed).live (sym (rw c.trades-trades.ensures.value at c.in_ok-fault.ensures.range) ∙ c.in_default-fault.is)
    (c.put_all.ensures ∙ ap (λ xs. put_trades xs us) c.in_ok-held.ensures) (on_none c.in_ok-fault.fault _ c.in_default-fault.is (rw c.trades-trades.ensures.value at c.in_ok-fault.ensures.moved))

pub returns-clause-in_range : goal.returns-clause-in_range
returns-clause-in_range c =
    sym (ap (λ (l : Live). range l.params (rows_of (put_trades c.args.batch.now l.book))) (seen_still c.self.inside.params (is_some c.self.inside.last) c.reserve.ensures.entries refl ∙ c.self.view_is))
    ∙ sym (rw c.trades-trades.ensures.value at c.in_ok-fault.ensures.range) ∙ c.in_default-fault.is

pub returns-clause-book : goal.returns-clause-book
returns-clause-book c =
    c.put_all.ensures ∙ ap (λ xs. put_trades xs (trades_of c.reserve.new.self.entries)) c.in_ok-held.ensures
    ∙ ap (λ (l : Live). put_trades c.args.batch.now l.book) (seen_still c.self.inside.params (is_some c.self.inside.last) c.reserve.ensures.entries refl ∙ c.self.view_is)

pub returns-clause-kept : goal.returns-clause-kept
returns-clause-kept c =
    subst (λ (l : Live). Forgets (rows_moved c.args.batch.now l.book) l.kept c.take_in.new.kept) (seen_still c.self.inside.params (is_some c.self.inside.last) c.reserve.ensures.entries refl ∙ c.self.view_is)
    (on_none c.in_ok-fault.fault _ c.in_default-fault.is (rw c.trades-trades.ensures.value at c.in_ok-fault.ensures.moved)).forgotten

pub returns-clause-elsewhere : goal.returns-clause-elsewhere
returns-clause-elsewhere c =
    let us = trades_of c.reserve.new.self.entries in
    subst (λ (l : Live). SameElsewhere (rows_moved c.args.batch.now l.book) (factors_of (rows_of l.book)) (factors_of (rows_of (trades_of c.put_all.new.current.entries))))
    (seen_still c.self.inside.params (is_some c.self.inside.last) c.reserve.ensures.entries refl ∙ c.self.view_is)
    (subst (λ book. SameElsewhere (rows_moved c.args.batch.now us) (factors_of (rows_of us)) (factors_of (rows_of book))) (sym (c.put_all.ensures ∙ ap (λ xs. put_trades xs us) c.in_ok-held.ensures))
    (on_none c.in_ok-fault.fault _ c.in_default-fault.is (rw c.trades-trades.ensures.value at c.in_ok-fault.ensures.moved)).elsewhere)
