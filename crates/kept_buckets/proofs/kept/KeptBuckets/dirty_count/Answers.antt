use Rattle.std.proofs.Common.{◌+◌, ◌^◌, ◌<◌, ◌∙◌, ap, zero-add, arith}
use Rattle.std.specs.Prelude.{sum_by}
use Rattle.factor_book.specs.Places.{Lent}
use Rattle.kept_buckets.specs.Dirty.{dirty_at, dirty_in}
use Rattle.kept_buckets.proofs.Sums.{dirty_below, count_next, count_fits, count_end}
use Rattle.kept_buckets.proofs.kept.KeptBuckets.dirty_count.Goals as goal

pub loop-lent-init : goal.loop-lent-init
loop-lent-init c =
    let dirty = λ (lent : Lent). dirty_at c.args.self.now lent.place in
    zero-add (sum_by dirty c.into_iter-lent-iterator.result)
    ∙ ap (sum_by dirty) (c.into_iter-lent-iterator.ensures.into_iter_gives ∙ c.places-lent-items.ensures.rest)

pub overflow_add-count : goal.overflow_add-count
overflow_add-count c =
    let kept = c.args.self.now in
    let its = c.dirty_at-count.ensures ∙ ap (dirty_at kept) c.place.ensures in
    let small : c.loop-lent.count + c.dirty_at-count.result < 2 ^ 32 =
    count_fits (λ (lent : Lent). dirty_at kept lent.place) (dirty_in kept c.args.factors.now) c.loop-lent.count c.dirty_at-count.result c.loop-lent.lent-iterator c.next.new.self c.in-Some.lent.now
    c.in-Some.ensures.steps c.loop-lent.invariant its (2 ^ 32) (dirty_below kept c.args.factors.now c.requires) in
    omega (arith, small)

pub loop-lent-preserved : goal.loop-lent-preserved
loop-lent-preserved c =
    let kept = c.args.self.now in
    count_next (λ (lent : Lent). dirty_at kept lent.place) (dirty_in kept c.args.factors.now) c.loop-lent.count c.dirty_at-count.result c.loop-lent.lent-iterator c.next.new.self c.in-Some.lent.now
    c.in-Some.ensures.steps c.loop-lent.invariant (c.dirty_at-count.ensures ∙ ap (dirty_at kept) c.place.ensures)

pub returns : goal.returns
returns c =
    count_end (λ (lent : Lent). dirty_at c.args.self.now lent.place) (dirty_in c.args.self.now c.args.factors.now) c.loop-lent.count c.loop-lent.lent-iterator c.in-None.ensures.steps.0 c.loop-lent.invariant
