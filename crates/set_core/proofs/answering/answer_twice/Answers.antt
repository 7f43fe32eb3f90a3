use Rattle.set_core.proofs.Caching.{margin_stays}
use Rattle.set_core.proofs.Demands.{on_err}
use Rattle.set_core.proofs.answering.answer_twice.Goals as goal

pub returns-in_err-kept-clause-stays : goal.returns-in_err-kept-clause-stays
returns-in_err-kept-clause-stays c =
    on_err c.from_residual-in_err-kept.result (margin_stays c.args.live.now c.answer.new.live c.args.event.now c.in_ok-reply.reply c.in_err-kept.ensures.margin c.in_ok-reply.ensures.caches)
