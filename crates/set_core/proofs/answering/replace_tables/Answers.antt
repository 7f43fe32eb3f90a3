use Rattle.std.proofs.Common.{◌∙◌, refl}
use Rattle.std.proofs.lemmas.Result.{IfOk-weaker}
use Rattle.set_core.specs.declared.event.Event.TheVariants as events
use Rattle.set_core.proofs.BookReplies.{change_does, change_caches, unchanged}
use Rattle.set_core.proofs.Caching.{both_so, caches_none}
use Rattle.set_core.proofs.Changes.{other_tables}
use Rattle.set_core.proofs.answering.replace_tables.Goals as goal

pub returns-clause-does : goal.returns-clause-does
returns-clause-does c =
    IfOk-weaker c.book_reply.result _ _ (λ r replies h.
    change_does c.args.live.now c.replace_tables-change.new.self (events.Tables c.args.text.now) h (record { made = refl; refused = λ why. refl; trades = λ why. refl }) _ _ c.replace_tables-change.result
    (record {
      admitted = rw c.params.ensures.value at c.replace_tables-change.ensures.admitted;
      in_range = rw c.params.ensures.value at c.replace_tables-change.ensures.in_range;
      unadmitted = rw c.params.ensures.value at c.replace_tables-change.ensures.unadmitted;
      above = rw c.params.ensures.value at c.replace_tables-change.ensures.range;
      of_admitted = rw c.params.ensures.value at c.replace_tables-change.ensures.range_of_admitted;
    }) refl
    (both_so c.replace_tables-change.result _ _ _ c.replace_tables-change.ensures.params c.replace_tables-change.ensures.book
    (λ params book. other_tables c.replace_tables-change.new.self c.args.live.now _ (params ∙ c.params.ensures.value) book))
    c.replace_tables-change.ensures.unchanged r replies)
    c.book_reply.ensures.replies

pub returns-clause-caches : goal.returns-clause-caches
returns-clause-caches c =
    IfOk-weaker c.book_reply.result _ _
    (change_caches c.args.live.now c.replace_tables-change.new.self (events.Tables c.args.text.now) c.replace_tables-change.result
    (both_so c.replace_tables-change.result _ _ _ c.replace_tables-change.ensures.stale c.replace_tables-change.ensures.none
    (λ stale none. caches_none c.args.live.now c.replace_tables-change.new.self c.args.text.now stale none))
    c.replace_tables-change.ensures.unchanged)
    c.book_reply.ensures.replies

pub returns-clause-unchanged : goal.returns-clause-unchanged
returns-clause-unchanged c = unchanged c.replace_tables-change.result c.book_reply.result _ c.book_reply.ensures.refused c.replace_tables-change.ensures.unchanged
