use Rattle.std.proofs.Common.{subst}
use Rattle.std.proofs.lemmas.List.{take_all}
use Rattle.simm_params.specs.SimmKinds.Batch.{rows_of}
use Rattle.book_range.specs.Firsts.{IsFirst, IsNewAt}
use Rattle.book_range.proofs.Coming.{new_none, new_trade}
use Rattle.book_range.proofs.after.crowded_new.Goals as goal

pub loop-trade-init : goal.loop-trade-init
loop-trade-init c = λ left w. new_none left c.args.leaving.now

pub loop-trade-preserved : goal.loop-trade-preserved
loop-trade-preserved c = λ left w.
    new_trade left c.args.leaving.now c.args.came.now c.loop-trade.trade-index c.trade-item.result c.as_slice.result.now c.loop-trade.first c.crowded_in.result c.earlier-first.result c.loop-trade-test.true c.trade-item.is
    c.as_slice.ensures c.earlier-first.ensures (c.loop-trade.invariant left w) (c.crowded_in.ensures left w)

pub returns : goal.returns
returns c = λ left w.
    subst (λ ts. IsFirst left (IsNewAt c.args.leaving.now (rows_of ts)) c.loop-trade.first) (take_all c.loop-trade.trade-index c.args.came.now c.loop-trade-test.false) (c.loop-trade.invariant left w)
