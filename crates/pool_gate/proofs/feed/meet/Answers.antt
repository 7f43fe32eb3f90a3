use Rattle.std.proofs.Common.{Option, sym, subst}
use Rattle.pool_feed.specs.declared.request.Request.{Request}
use Rattle.pool_gate.specs.Jobs.{Meets}
use Rattle.pool_gate.proofs.feed.meet.Goals as goal

pub returns-in_default : goal.returns-in_default
returns-in_default g c =
    subst (λ (asked : Option Request). Meets c.args.terms.now (record { line = c.args.item.line; request = asked }) c.args.job.now c.refuse.new.job c.refuse.result)
    (sym c.in_default.is) (c.refuse.ensures c.args.terms.now)
