use Rattle.std.proofs.Common.{[], refl, subst}
use Rattle.std.proofs.lemmas.List.{take_all}
use Rattle.kept_buckets.specs.Touched.{Forgets}
use Rattle.kept_buckets.proofs.Touching.{forgets_none, forgets_more}
use Rattle.kept_buckets.proofs.kept.KeptBuckets.touch.Goals as goal

pub loop-row-init : goal.loop-row-init
loop-row-init c = forgets_none [] c.args.self.now refl

pub loop-row-preserved : goal.loop-row-preserved
loop-row-preserved c =
    forgets_more c.args.self.now c.loop-row.self c.touch_row.new.self c.args.rows.now c.loop-row.row-index c.row-item.result
    c.loop-row-test.true c.row-item.is c.loop-row.invariant c.touch_row.ensures

pub returns : goal.returns
returns c =
    subst (λ rows. Forgets rows c.args.self.now c.loop-row.self) (take_all c.loop-row.row-index c.args.rows.now c.loop-row-test.false) c.loop-row.invariant
