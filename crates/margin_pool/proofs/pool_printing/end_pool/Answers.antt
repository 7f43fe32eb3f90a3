use Rattle.std.proofs.Common.{sym, ap, ◌∙◌, subst}
use Rattle.std.specs.List.{flat_map}
use Rattle.feed_files.specs.CommandFiles.Texts.{TextGoes}
use Rattle.margin_pool.specs.Pool.{PoolLeaves, end_of}
use Rattle.margin_pool.proofs.PoolLemmas.{leaves_at}
use Rattle.margin_pool.proofs.pool_printing.end_pool.Goals as goal

pub returns-in-Ok-clause-leaves : goal.returns-in-Ok-clause-leaves
returns-in-Ok-clause-leaves g c =
    let reports = c.args.run.reports.items in
    subst (PoolLeaves reports c.args.run.rest (g.K.Sink.seen c.args.out.now) (g.K.Sink.seen c.put_texts.new.out)) (sym c.status_at_end.ensures)
    (leaves_at reports c.args.run.rest _ _ c.end_of-end.result c.put_texts.result (sym (c.end_of-end.ensures ∙ ap end_of c.deref.ensures.value))
    (subst (λ text. TextGoes text (g.K.Sink.seen c.args.out.now) (g.K.Sink.seen c.put_texts.new.out) c.put_texts.result)
    (ap (flat_map (λ t. t)) c.deref-in-Ok.ensures.value ∙ c.in-Ok.ensures) c.put_texts.ensures.goes))
