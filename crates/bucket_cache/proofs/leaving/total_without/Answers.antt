use Rattle.std.proofs.Common.{[], ◌∷◌, sym, ap, subst, arith}
use Rattle.book_margin.specs.SimmKinds.declared.margin_side.MarginSide.TheVariants.{Collect}
use Rattle.book_margin.specs.SimmKinds.Batch.{rows_of}
use Rattle.book_margin.specs.SimmRules.declared.values.Breakdown.{Breakdown}
use Rattle.book_margin.specs.FactorBook.Factors.{factors_of}
use Rattle.book_margin.specs.KeptBuckets.Kept.{Kept}
use Rattle.book_margin.specs.Steps.{steps_due}
use Rattle.bucket_cache.specs.declared.sums.Sums.{Sums}
use Rattle.bucket_cache.specs.Live.{without, named}
use Rattle.bucket_cache.specs.Entries.{trades_of}
use Rattle.bucket_cache.specs.Held.{IsSummed}
use Rattle.bucket_cache.specs.Worked.{steps_over}
use Rattle.bucket_cache.proofs.AddOnOrder.{add_ons_move}
use Rattle.bucket_cache.proofs.Keeping.{margin_book, right_of}
use Rattle.bucket_cache.proofs.Gone.{room_for, came_back}
use Rattle.bucket_cache.proofs.Lives.{live_without}
use Rattle.bucket_cache.proofs.Working.{steps_forgotten}
use Rattle.bucket_cache.proofs.leaving.total_without.Goals as goal

pub take_out-requires-clause-book : goal.take_out-requires-clause-book
take_out-requires-clause-book g c = subst (IsSummed c.args.params.now (trades_of c.args.current.now.entries) c.args.sums.now) (sym c.in_ok-left.ensures) c.requires

pub margin_of-requires-clause-book : goal.margin_of-requires-clause-book
margin_of-requires-clause-book g c =
    let us = without (c.args.name.now ∷ []) (trades_of c.args.current.now.entries) in (
      rows_of us,
      margin_book c.args.params.now us c.take_out.new.sums _ (live_without c.args.params.now (c.args.name.now ∷ []) (trades_of c.args.current.now.entries) c.fewer_are_in_range.ensures c.requires.live)
          c.in_ok-take_out.ensures.moved.summed c.parameters_without-parameters.ensures,
    )

pub margin_of-requires-clause-right : goal.margin_of-requires-clause-right
margin_of-requires-clause-right g c =
    right_of c.args.params.now (rows_of (without (c.args.name.now ∷ []) (trades_of c.args.current.now.entries))) c.take_out.new.sums c.take_out.new.kept c.in_ok-take_out.ensures.moved.summed c.in_ok-take_out.ensures.moved.right

pub add_lent-requires : goal.add_lent-requires
add_lent-requires g c =
    room_for c.args.params.now c.args.name.now (trades_of c.args.current.now.entries) c.requires.live c.take_out.new.sums c.rows_in-rows.result.now c.rows_in-rows.ensures c.in_ok-take_out.ensures.moved.summed

pub returns-clause-total : goal.returns-clause-total
returns-clause-total g c =
    let us = without (c.args.name.now ∷ []) (trades_of c.args.current.now.entries) in
    ap (λ (b : Breakdown). b.total)
    (c.in_ok-margins.ensures.value (rows_of us) Collect
    (margin_book c.args.params.now us c.take_out.new.sums _ (live_without c.args.params.now (c.args.name.now ∷ []) (trades_of c.args.current.now.entries) c.fewer_are_in_range.ensures c.requires.live)
    c.in_ok-take_out.ensures.moved.summed c.parameters_without-parameters.ensures))

pub returns-clause-back : goal.returns-clause-back
returns-clause-back g c =
    let us = trades_of c.args.current.now.entries in
    came_back c.args.params.now c.args.name.now us c.requires.live c.args.sums.now c.add_lent.new.self c.rows_in-rows.result.now c.order_is_free.ensures.permuted (add_ons_move c.sums_ignore_order.ensures.alike)
    c.rows_in-rows.ensures c.requires.summed (c.in_ok-add_lent.ensures.ok (rows_of (without (c.args.name.now ∷ []) us)) c.in_ok-take_out.ensures.moved.summed)

pub returns-clause-steps : goal.returns-clause-steps
returns-clause-steps g c =
    let us = trades_of c.args.current.now.entries in
    let factors = factors_of (rows_of (without (c.args.name.now ∷ []) us)) in
    let gone = rows_of (named (c.args.name.now ∷ []) us) in
    omega (
      arith,
      c.in_ok-margins.ensures.steps,
      ap (λ (s : Sums). steps_due c.args.params.now c.take_out.new.kept s.factors) c.in_ok-take_out.ensures.moved.summed,
      steps_forgotten c.args.params.now gone c.in_ok-left.left c.take_out.new.kept factors c.in_ok-take_out.ensures.moved.forgotten,
      ap (λ (k : Kept). steps_over c.args.params.now gone k factors) c.in_ok-left.ensures,
    )
