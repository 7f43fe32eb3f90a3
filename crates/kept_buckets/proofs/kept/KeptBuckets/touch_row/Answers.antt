use Rattle.kept_buckets.proofs.Touching.{forgets_one}
use Rattle.kept_buckets.proofs.kept.KeptBuckets.touch_row.Goals as goal

pub returns-in-Sensitivity : goal.returns-in-Sensitivity
returns-in-Sensitivity c =
    forgets_one c.args.self.now c.forget.new.self c.args.row.now c.in-Sensitivity.key c.in-Sensitivity.amount c.of.result
    c.in-Sensitivity.is c.of.ensures c.forget.ensures.values c.forget.ensures.margins
