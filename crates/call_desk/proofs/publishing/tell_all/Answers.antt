use Rattle.std.proofs.Common.{arith}
use Rattle.call_desk.proofs.Tellings.{told_more, told_one}
use Rattle.call_desk.proofs.publishing.tell_all.Goals as goal

pub loop-notice-preserved : goal.loop-notice-preserved
loop-notice-preserved g c = (
  omega arith,
  told_more _ _ _ c.args.notices.now c.loop-notice.notice-index c.notice-item.result c.loop-notice-test.true c.notice-item.is c.loop-notice.invariant.1 (told_one _ _ _ _ _ c.in_default.is c.tell_one.ensures),
)
