use Rattle.std.proofs.Common.{◌≡◌, arith, length, map, drop, sym, ap, ◌∙◌, subst, All}
use Rattle.std.specs.List.{AllZip}
use Rattle.std.proofs.lemmas.List.{take_at}
use Rattle.feed_runs.specs.Untaken.{fresh}
use Rattle.feed_gate.specs.Seats.{AreSeats}
use Rattle.feed_gate.specs.Jobs.{RanFeed}
use Rattle.feed_gate.specs.Share.{Starts, AreRows, AreCellRows, AreKeptIn}
use Rattle.feed_gate.specs.SetsRun.{RanOnSets}
use Rattle.feed_runs.proofs.Zips.{zip_length, map_lengths}
use Rattle.feed_gate.proofs.Sources.{named_of, callers_of, all_seats, rows_after, ran_on_sets}
use Rattle.feed_gate.proofs.sets_run.run_on_sets.Goals as goal

pub run_feeds-requires-clause-named : goal.run_feeds-requires-clause-named
run_feeds-requires-clause-named g c lifetimes live =
    named_of _ c.deref-2.result.now c.args.sets.items c.deref.result.now (c.deref-2.ensures.value ∙ c.in-Ok-share_sets.ensures.names) c.requires.apart
    (subst (AllZip (Starts _) c.args.sets.items) (sym c.deref.ensures.value) c.in-Ok-share_sets.ensures.cells)

pub run_feeds-requires-clause-seats : goal.run_feeds-requires-clause-seats
run_feeds-requires-clause-seats g c lifetimes live =
    subst (λ cells. All (λ job. AreSeats cells job.seats.items) c.deref_mut.result.now) (sym c.deref.ensures.value)
    (subst (All (λ job. AreSeats c.in-Ok-share_sets.shared.cells.items job.seats.items)) (sym c.deref_mut.ensures.value)
    (all_seats g.S.Source.seen c.in-Ok-share_sets.shared.cells.items 0 c.in_ok-jobs.jobs.items
    (subst (AreRows c.in-Ok-share_sets.shared.cells.items 0) (sym c.in_ok-jobs.ensures.seats) c.in-Ok-share_sets.ensures.rows)))

pub fill-requires-clause-sets : goal.fill-requires-clause-sets
fill-requires-clause-sets g c = (c.in-Ok.ensures.sets.0, omega (arith, zip_length (Starts _) c.args.sets.items c.in-Ok-share_sets.shared.cells.items c.in-Ok-share_sets.ensures.cells, c.in-Ok.ensures.sets.1))

pub fill-requires-clause-sources : goal.fill-requires-clause-sources
fill-requires-clause-sources g c = (c.in-Ok.ensures.sources.0, omega (arith, c.in-Ok.ensures.sources.1, map_lengths (λ job. job.lines) fresh c.in_ok-jobs.jobs.items c.args.sources.items c.in_ok-jobs.ensures.lines))

pub fill-requires-clause-reports : goal.fill-requires-clause-reports
fill-requires-clause-reports g c = (c.in-Ok.ensures.reports.0, omega (arith, c.in-Ok.ensures.reports.1, map_lengths (λ job. job.lines) fresh c.in_ok-jobs.jobs.items c.args.sources.items c.in_ok-jobs.ensures.lines))

pub fill-requires-clause-rows : goal.fill-requires-clause-rows
fill-requires-clause-rows g c = (c.in-Ok.ensures.rows.0, omega (arith, c.in-Ok.ensures.rows.1, map_lengths (λ job. job.lines) fresh c.in_ok-jobs.jobs.items c.args.sources.items c.in_ok-jobs.ensures.lines))

pub fill-requires-clause-some : goal.fill-requires-clause-some
fill-requires-clause-some g c = omega (arith, c.requires.feeds, map_lengths (λ job. job.lines) fresh c.in_ok-jobs.jobs.items c.args.sources.items c.in_ok-jobs.ensures.lines)

pub fill-requires-clause-seats : goal.fill-requires-clause-seats
fill-requires-clause-seats g c =
    let cells = c.in-Ok-share_sets.shared.cells.items in
    let jobs = c.in_ok-jobs.jobs.items in
    let new = c.run_feeds.new.jobs in
    let names = c.deref-2.ensures.value ∙ c.in-Ok-share_sets.ensures.names in
    let named = named_of c.len-3.result c.deref-2.result.now c.args.sets.items cells names c.requires.apart c.in-Ok-share_sets.ensures.cells in
    let ran = subst (λ js. AllZip (RanFeed g.S.Source.seen c.deref-2.result.now) js new) c.deref_mut.ensures.value c.run_feeds.ensures in
    let long : length new ≡ c.in_ok-jobs.jobs.len = omega (arith, zip_length (RanFeed g.S.Source.seen c.deref-2.result.now) jobs new ran) in
    subst (λ js. AreCellRows cells 0 (map (λ job. job.seats.items) js)) (sym (take_at new (drop (length new) jobs) c.in_ok-jobs.jobs.len long))
    (rows_after g.S.Source.seen c.deref-2.result.now cells 0 jobs new (sym named.count) (subst (AreRows cells 0) (sym c.in_ok-jobs.ensures.seats) c.in-Ok-share_sets.ensures.rows) ran)

pub fill-requires-clause-callers : goal.fill-requires-clause-callers
fill-requires-clause-callers g c k d within =
    let many : c.len-3.result ≡ c.in_ok-jobs.jobs.len = omega (arith, c.len-3.ensures, map_lengths (λ job. job.lines) fresh c.in_ok-jobs.jobs.items c.args.sources.items c.in_ok-jobs.ensures.lines) in
    callers_of c.len-3.result c.args.sets.items c.in-Ok-share_sets.shared.cells.items c.in-Ok-share_sets.ensures.cells k d within ∙ many

pub returns-clause-ran : goal.returns-clause-ran
returns-clause-ran g c =
    let cells = c.in-Ok-share_sets.shared.cells.items in
    let jobs = c.in_ok-jobs.jobs.items in
    let new = c.run_feeds.new.jobs in
    let after = c.fill.result.sets.items in
    let names = c.deref-2.ensures.value ∙ c.in-Ok-share_sets.ensures.names in
    let ran = subst (λ js. AllZip (RanFeed g.S.Source.seen c.deref-2.result.now) js new) c.deref_mut.ensures.value c.run_feeds.ensures in
    let long : length new ≡ c.in_ok-jobs.jobs.len = omega (arith, zip_length (RanFeed g.S.Source.seen c.deref-2.result.now) jobs new ran) in
    let back = take_at new (drop (length new) jobs) c.in_ok-jobs.jobs.len long in
    let as_many = map_lengths (λ job. job.lines) fresh jobs c.args.sources.items c.in_ok-jobs.ensures.lines in
    let many : c.in_ok-jobs.jobs.len ≡ length c.args.sources.items = omega (arith, as_many) in
    let callers : c.len-3.result ≡ c.in_ok-jobs.jobs.len = omega (arith, c.len-3.ensures, as_many) in
    subst (λ xs. RanOnSets g.S.Source.seen c.args.sets.items after c.args.sources.items xs c.fill.result.reports.items) (sym (c.fill.ensures.sources ∙ ap (map (λ job. job.lines.source)) back))
    (subst (λ rs. RanOnSets g.S.Source.seen c.args.sets.items after c.args.sources.items (map (λ job. job.lines.source) new) rs) (sym (c.fill.ensures.reports ∙ ap (map (λ job. job.report)) back))
    (ran_on_sets g.S.Source.seen c.in_ok-jobs.jobs.len c.deref-2.result.now c.args.sets.items after cells c.args.sources.items jobs new many names
    (subst (λ n. AllZip (Starts n) c.args.sets.items cells) callers c.in-Ok-share_sets.ensures.cells) c.in_ok-jobs.ensures.lines
    (subst (AreRows cells 0) (sym c.in_ok-jobs.ensures.seats) c.in-Ok-share_sets.ensures.rows) ran c.fill.ensures.sets
    (subst (λ js. AreKeptIn 0 (map (λ job. job.seats.items) js) after) back c.fill.ensures.kept)))
