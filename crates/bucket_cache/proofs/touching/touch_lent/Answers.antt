use Rattle.std.proofs.Common.{List, refl, sym, subst}
use Rattle.std.proofs.lemmas.List.{take_all}
use Rattle.book_margin.specs.SimmKinds.declared.row.CrifRow.{CrifRow}
use Rattle.book_margin.specs.KeptBuckets.Touched.{Forgets}
use Rattle.bucket_cache.specs.declared.lent.LentRows.{LentRows}
use Rattle.bucket_cache.specs.Lent.{all_rows}
use Rattle.bucket_cache.proofs.Gaining.{rows_taken}
use Rattle.bucket_cache.proofs.touching.touch_lent.Goals as goal

pub loop-trade-init : goal.loop-trade-init
loop-trade-init c = record { values = λ place. refl; margins = λ c k. refl }

pub loop-trade-preserved : goal.loop-trade-preserved
loop-trade-preserved c =
    subst (λ (rows : List CrifRow). Forgets rows c.args.kept.now c.touch.new.self) (sym (rows_taken c.args.lent.now c.loop-trade.trade-index c.trade-item.result c.loop-trade-test.true c.trade-item.is))
    (c.touches_add_up.ensures.forgotten _ _ _ _ _ c.loop-trade.invariant c.touch.ensures)

pub returns : goal.returns
returns c =
    subst (λ (its : List LentRows). Forgets (all_rows its) c.args.kept.now c.loop-trade.kept) (take_all c.loop-trade.trade-index c.args.lent.now c.loop-trade-test.false) c.loop-trade.invariant
