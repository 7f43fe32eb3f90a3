use Rattle.std.proofs.Common.{◌+ℤ◌, neg_ℤ, ◌∙◌, FitsSigned, ◌≤◌, ◌*◌, ◌^◌, Some, None, subst, sym, ap}
use Rattle.std.specs.Int.{w128}
use Rattle.std.proofs.lemmas.List.{take_all}
use Rattle.simm_params.proofs.MhUnits.Integers.{unsigned_abs-neg}
use Rattle.factor_book.specs.Place.{stand_class, stand_side}
use Rattle.book_range.specs.Sizes.{place_part, size_at, weighed_at}
use Rattle.book_range.proofs.Rated.{weights_low}
use Rattle.book_range.proofs.Sizing.{Taken, taken_none, taken_more, one_taken, grown_by, nothing_taken, negated, taken_fits, taken_in_range, rows_taken, row_in_range}
use Rattle.book_range.proofs.sizes.GrossSizes.take_rows.Goals as goal
use Rattle.book_range.proofs.sizes.GrossSizes.take_rows.Goals.{in-Some, in_default}

pub loop-row-init : goal.loop-row-init
loop-row-init c = taken_none c.args.params.now c.args.self.now

pub row_size-requires : goal.row_size-requires
row_size-requires c =
    row_in_range c.args.rows.now c.loop-row.row-index c.row-item.result c.loop-row-test.true c.row-item.is (taken_in_range c.args.params.now c.args.self.now c.args.rows.now c.requires)

pub grow-requires : goal.grow-requires
grow-requires c =
    let p = c.args.params.now in
    let weighed = c.in-Some.weighed in
    let low = weights_low p c.facts.ensures.params c.facts.ensures.weighed c.rate_facts.ensures.weighed c.credit_facts.ensures c.priced_facts.ensures in
    subst (λ z. FitsSigned w128 (place_part c.loop-row.self weighed.place +ℤ z)) (sym (negated weighed.size c.in-Some.ensures.bound))
    (taken_fits p low c.args.self.now c.loop-row.self c.args.rows.now weighed.place.product (stand_class weighed.place.stand) (stand_side weighed.place.stand) c.requires c.loop-row.row-index (neg_ℤ weighed.size) c.loop-row.invariant
    (subst (λ n. n ≤ 2 * 10 ^ 28) (sym (unsigned_abs-neg weighed.size)) c.in-Some.ensures.bound))

pub loop-row-preserved : goal.loop-row-preserved
loop-row-preserved c =
    elim c.match-row_size.branch [
      | in-Some w ↦
          let weighed = w.in-Some.weighed in
          taken_more c.args.params.now c.args.self.now c.loop-row.self c.match-row_size.self c.args.rows.now c.loop-row.row-index c.row-item.result (Some weighed) c.loop-row-test.true c.row-item.is
          (λ p k on. ap (λ o. weighed_at o p k on) (sym w.in-Some.is) ∙ c.row_size.ensures.value p k on) c.loop-row.invariant
          (one_taken c.loop-row.self c.match-row_size.self weighed (grown_by c.loop-row.self c.match-row_size.self weighed.place _ (neg_ℤ weighed.size) (negated weighed.size w.in-Some.ensures.bound)
          (λ p k on. ap (λ s. size_at s p k on) w.self-is ∙ w.grow.ensures p k on)))
      | in_default w ↦
          taken_more c.args.params.now c.args.self.now c.loop-row.self c.match-row_size.self c.args.rows.now c.loop-row.row-index c.row-item.result None c.loop-row-test.true c.row-item.is
          (λ p k on. ap (λ o. weighed_at o p k on) (sym w.in_default.is) ∙ c.row_size.ensures.value p k on) c.loop-row.invariant
          (λ p k on. ap (λ s. size_at s p k on) w.self-is ∙ nothing_taken c.loop-row.self p k on)
    ]

pub returns : goal.returns
returns c =
    rows_taken c.args.params.now c.args.self.now c.loop-row.self c.args.rows.now
    (subst (Taken c.args.params.now c.args.self.now c.loop-row.self) (take_all c.loop-row.row-index c.args.rows.now c.loop-row-test.false) c.loop-row.invariant)
