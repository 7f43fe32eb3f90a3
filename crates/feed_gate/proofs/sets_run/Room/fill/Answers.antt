use Rattle.std.proofs.Common.{◌≡◌, arith, [], ◌++◌, map, append-nil, sym, ap, ◌∙◌, subst}
use Rattle.std.specs.List.{AllZip}
use Rattle.std.specs.Vec.{vec_len}
use Rattle.std.proofs.lemmas.List.{nil_from_length}
use Rattle.feed_gate.specs.Share.{Closes}
use Rattle.feed_runs.proofs.Zips.{map_lengths}
use Rattle.feed_gate.proofs.sets_run.Room.fill.Goals as goal
use Rattle.feed_gate.proofs.sets_run.Room.fill.Goals.{In_default}

-- no job waits any more
none : (g : _) (c : In_default g) → c.loop-job.waiting.items ≡ []
none g c = nil_from_length c.loop-job.waiting.items (omega (arith, c.in_default.ensures.cases.0))

many : (g : _) (c : In_default g) → vec_len c.loop-job.rows ≡ vec_len c.args.jobs
many g c =
    let rows : map (λ row. row.items) c.loop-job.rows.items ≡ map (λ job. job.seats.items) c.args.jobs.items
    = sym (append-nil (map (λ row. row.items) c.loop-job.rows.items)) ∙ ap (λ ws. map (λ row. row.items) c.loop-job.rows.items ++ map (λ job. job.seats.items) ws) (sym (none g c)) ∙ c.loop-job.invariant.rows in
    omega (arith, map_lengths (λ row. row.items) (λ job. job.seats.items) c.loop-job.rows.items c.args.jobs.items rows)

pub close_sets-requires-clause-callers : goal.close_sets-requires-clause-callers
close_sets-requires-clause-callers g c k d within = c.requires.callers k d within ∙ sym (many g c)

pub returns-clause-sources : goal.returns-clause-sources
returns-clause-sources g c =
    sym (append-nil c.loop-job.sources.items) ∙ ap (λ ws. c.loop-job.sources.items ++ map (λ job. job.lines.source) ws) (sym (none g c.before.before)) ∙ c.loop-job.invariant.sources

pub returns-clause-reports : goal.returns-clause-reports
returns-clause-reports g c =
    sym (append-nil c.loop-job.reports.items) ∙ ap (λ ws. c.loop-job.reports.items ++ map (λ job. job.report) ws) (sym (none g c.before.before)) ∙ c.loop-job.invariant.reports

pub returns-clause-sets : goal.returns-clause-sets
returns-clause-sets g c = subst (λ n. AllZip (Closes n) c.args.cells.items c.close_sets.result.items) (many g c.before.before) c.close_sets.ensures.sets
