use Rattle.std.proofs.Common.{arith, slice_index_or, subst}
use Rattle.feed_runs.proofs.Zips.{zip_each}
use Rattle.pool_gate.specs.Share.{RanWithTerms}
use Rattle.pool_gate.proofs.jobs.run_jobs.Goals as goal

pub returns : goal.returns
returns g c =
    let ran = RanWithTerms g.S.Source.seen c.args.sets.now in
    zip_each ran c.args.jobs.now c.for_each_mut.new.s (omega arith)
    (λ k d within.
    let at = (c.for_each_mut.ensures k d within).1 in
    subst (λ job. ran job (slice_index_or c.for_each_mut.new.s k d)) at.argument_is (subst (ran at.argument.now) at.left at.call))
