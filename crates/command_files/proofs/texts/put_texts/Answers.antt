use Rattle.std.proofs.Common.{sym, ◌∙◌}
use Rattle.command_files.proofs.TextLemmas.{cut_at}
use Rattle.command_files.proofs.texts.put_texts.Goals as goal

pub returns-then-is_err-clause-goes : goal.returns-then-is_err-clause-goes
returns-then-is_err-clause-goes g c =
    cut_at (g.K.Sink.seen c.args.out.now) (g.K.Sink.seen c.loop-text.out) (g.K.Sink.seen c.put_all.new.sink) c.args.texts.now c.loop-text.text-index c.text-item.result c.as_slice.result.now c.put_all.result
    (sym c.is_err.ensures.value ∙ c.if-is_err.true) c.loop-text-test.true c.text-item.is c.as_slice.ensures c.loop-text.invariant.got c.loop-text.invariant.count c.put_all.ensures.cut c.put_all.ensures.failed
