use Rattle.std.proofs.Common.{arith, length-drop}
use Rattle.mh_io.proofs.TakesLemmas.{then_put}
use Rattle.mh_io.proofs.writing.put_all.Goals as goal

pub loop-put-preserved : goal.loop-put-preserved
loop-put-preserved g c = (omega (arith, c.in-Ok.ensures.within, length-drop c.loop-put.put c.args.bytes.now), omega arith, then_put _ _ _ c.args.bytes.now c.loop-put.put c.in-Ok.taken c.loop-put.invariant.2 c.in-Ok.ensures.holds)
