use Rattle.std.proofs.Common.{Err, refl}
use Rattle.margin_whatif.proofs.Alone.{says_alone}
use Rattle.margin_whatif.proofs.live.live_of_batch.Goals as goal

pub returns-in-Err : goal.returns-in-Err
returns-in-Err c =
    c.batch_fault.ensures c.args.params c.args.batch.now
    (says_alone c.args.params c.in-Ok.live.params c.args.batch.now c.in-Ok.live.book c.in-Err.fault (Err c.in-Err.fault) c.in-Ok.ensures.params c.in-Ok.ensures.book c.batch_alone.ensures refl
    c.in-Err.ensures.unadmitted c.in-Err.ensures.range c.in-Err.ensures.range_of_admitted)
