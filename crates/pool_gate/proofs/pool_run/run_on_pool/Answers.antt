use Rattle.std.proofs.Common.{◌≡◌, arith, length, map, take, drop, ◌++◌, sym, ap, ◌∙◌, subst, All}
use Rattle.std.specs.List.{AllZip, AllByRecursion}
use Rattle.std.proofs.lemmas.List.{take_at}
use Rattle.std.proofs.lemmas.List.Elements.{recursion_from_All}
use Rattle.threshold_pool.specs.Seats.{fresh_seat}
use Rattle.pool_gate.specs.Share.{IsReady, RanWithTerms, IsPart, KeepsRest, reported}
use Rattle.pool_gate.specs.PoolRun.{RanOnPool}
use Rattle.feed_runs.proofs.Zips.{zip_length}
use Rattle.pool_gate.proofs.Starting.{fresh_length, all_ready}
use Rattle.pool_gate.proofs.Fates.{ran_on_pool, still_parts}
use Rattle.pool_gate.proofs.pool_run.run_on_pool.Goals as goal
use Rattle.pool_gate.proofs.pool_run.run_on_pool.Goals.{After-deref_mut, After-run_jobs}

-- a seat for each feed
new_seats : (g : _) (c : After-deref_mut g) → AllByRecursion (λ s. s ≡ fresh_seat c.in-Ok-start_pool.pool 1) c.in-Ok-start_pool.seats.items
new_seats g c = recursion_from_All (λ s. s ≡ fresh_seat c.in-Ok-start_pool.pool 1) c.in-Ok-start_pool.seats.items c.in-Ok-start_pool.ensures.seats

-- and a job
as_many : (g : _) (c : After-deref_mut g) → length c.in_ok-jobs.jobs.items ≡ length c.args.sources.items
as_many g c = fresh_length 0 c.args.sources.items c.in-Ok-start_pool.seats.items c.in_ok-jobs.jobs.items c.in_ok-jobs.ensures.fresh

pub run_jobs-requires-after_bounds : goal.run_jobs-requires-after_bounds
run_jobs-requires-after_bounds g c lifetimes live =
    subst (All (IsReady c.in-Ok-start_pool.pool c.args.sets.now)) (sym c.deref_mut.ensures.value)
    (all_ready c.args.sets.now c.in-Ok-start_pool.pool c.args.sources.items c.in-Ok-start_pool.seats.items c.in_ok-jobs.jobs.items (omega (arith, c.requires.sets)) c.in_ok-jobs.ensures.fresh (new_seats g c))

-- the jobs as they were run
ran : (g : _) (c : After-run_jobs g) → AllZip (RanWithTerms g.S.Source.seen c.args.sets.now) c.in_ok-jobs.jobs.items c.run_jobs.new.jobs
ran g c = subst (λ jobs. AllZip (RanWithTerms g.S.Source.seen c.args.sets.now) jobs c.run_jobs.new.jobs) c.deref_mut.ensures.value c.run_jobs.ensures

-- and are all that there are
back : (g : _) (c : After-run_jobs g) → take c.in_ok-jobs.jobs.len (c.run_jobs.new.jobs ++ drop (length c.run_jobs.new.jobs) c.in_ok-jobs.jobs.items) ≡ c.run_jobs.new.jobs
back g c =
    let new = c.run_jobs.new.jobs in
    take_at new (drop (length new) c.in_ok-jobs.jobs.items) c.in_ok-jobs.jobs.len (omega (arith, zip_length (RanWithTerms g.S.Source.seen c.args.sets.now) c.in_ok-jobs.jobs.items new (ran g c)))

pub fill-requires-clause-sources : goal.fill-requires-clause-sources
fill-requires-clause-sources g c = (c.in-Ok.ensures.sources.0, omega (arith, c.in-Ok.ensures.sources.1, c.len-feeds.ensures, as_many g c.before.before))

pub fill-requires-clause-reports : goal.fill-requires-clause-reports
fill-requires-clause-reports g c = (c.in-Ok.ensures.reports.0, omega (arith, c.in-Ok.ensures.reports.1, c.len-feeds.ensures, as_many g c.before.before))

pub fill-requires-clause-some : goal.fill-requires-clause-some
fill-requires-clause-some g c = omega (arith, c.requires.feeds, as_many g c.before.before)

pub fill-requires-clause-seats : goal.fill-requires-clause-seats
fill-requires-clause-seats g c =
    subst (AllByRecursion (λ job. IsPart c.in-Ok-start_pool.pool job.seat)) (sym (back g c.before))
    (still_parts g.S.Source.seen c.args.sets.now c.in-Ok-start_pool.pool 0 c.args.sources.items c.in-Ok-start_pool.seats.items c.in_ok-jobs.jobs.items c.run_jobs.new.jobs c.in_ok-jobs.ensures.fresh (new_seats g c.before.before) (ran g c.before))

pub fill-requires-clause-all : goal.fill-requires-clause-all
fill-requires-clause-all g c = omega (arith, c.in-Ok-start_pool.ensures.pool.1, c.len-feeds.ensures, as_many g c.before.before)

pub returns-clause-ran : goal.returns-clause-ran
returns-clause-ran g c =
    let seen = g.S.Source.seen in
    let sets = c.args.sets.now in
    let sources = c.args.sources.items in
    let new = c.run_jobs.new.jobs in
    let rest = c.fill.result.rest in
    let all = back g c.before.before in
    let keeps = subst (λ jobs. KeepsRest c.in-Ok-start_pool.pool.total (map (λ job. job.seat) jobs) rest) all c.fill.ensures.rest in
    subst (λ xs. RanOnPool seen c.args.total sets sources xs c.fill.result.reports.items rest) (sym (c.fill.ensures.sources ∙ ap (map (λ job. job.lines.source)) all))
    (subst (λ rs. RanOnPool seen c.args.total sets sources (map (λ job. job.lines.source) new) rs rest) (sym (c.fill.ensures.reports ∙ ap (map reported) all))
    (ran_on_pool seen sets c.args.total c.in-Ok-start_pool.pool sources c.in-Ok-start_pool.seats.items c.in_ok-jobs.jobs.items new rest
    c.in-Ok-start_pool.ensures.pool.0 c.in_ok-jobs.ensures.fresh (new_seats g c.before.before.before) (ran g c.before.before) (subst (λ n. KeepsRest n (map (λ job. job.seat) new) rest) c.in-Ok-start_pool.ensures.pool.0 keeps)))
