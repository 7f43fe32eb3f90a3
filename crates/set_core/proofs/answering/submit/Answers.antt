use Rattle.std.proofs.Common.{refl}
use Rattle.std.proofs.lemmas.Result.{IfOk-weaker}
use Rattle.bucket_cache.specs.Live.{rows_moved}
use Rattle.set_core.specs.declared.event.Event.TheVariants as events
use Rattle.set_core.proofs.BookReplies.{change_does, change_caches, unchanged}
use Rattle.set_core.proofs.Caching.{both_so, three_so, caches_moved}
use Rattle.set_core.proofs.Changes.{other_trades}
use Rattle.set_core.proofs.answering.submit.Goals as goal

pub returns-clause-does : goal.returns-clause-does
returns-clause-does c =
    IfOk-weaker c.book_reply.result _ _ (λ r replies h.
    change_does c.args.live.now c.submit-change.new.self (events.Submit c.args.batch.now) h (record { made = refl; refused = λ why. refl; trades = λ why. refl }) _ _ c.submit-change.result
    (record {
      admitted = c.submit-change.ensures.admitted;
      in_range = c.submit-change.ensures.in_range;
      unadmitted = c.submit-change.ensures.unadmitted;
      above = c.submit-change.ensures.range;
      of_admitted = c.submit-change.ensures.range_of_admitted;
    }) refl
    (both_so c.submit-change.result _ _ _ c.submit-change.ensures.params c.submit-change.ensures.book (λ params book. other_trades c.submit-change.new.self c.args.live.now _ params book))
    c.submit-change.ensures.unchanged r replies)
    c.book_reply.ensures.replies

pub returns-clause-caches : goal.returns-clause-caches
returns-clause-caches c =
    IfOk-weaker c.book_reply.result _ _
    (change_caches c.args.live.now c.submit-change.new.self (events.Submit c.args.batch.now) c.submit-change.result
    (three_so c.submit-change.result _ _ _ _ c.submit-change.ensures.stale c.submit-change.ensures.kept c.submit-change.ensures.elsewhere
    (caches_moved c.args.live.now c.submit-change.new.self (events.Submit c.args.batch.now) (rows_moved c.args.batch.now c.args.live.now.book) refl (λ place. refl)))
    c.submit-change.ensures.unchanged)
    c.book_reply.ensures.replies

pub returns-clause-unchanged : goal.returns-clause-unchanged
returns-clause-unchanged c = unchanged c.submit-change.result c.book_reply.result _ c.book_reply.ensures.refused c.submit-change.ensures.unchanged
