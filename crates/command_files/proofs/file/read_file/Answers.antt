use Rattle.std.proofs.Common.{ap, Err, refl, ◌∙◌, arith}
use Rattle.mh_io.specs.Faults.{added_faults}
use Rattle.command_files.proofs.FileLemmas.{told_read, whole_file, file_front, find_ends, read_ends}
use Rattle.command_files.proofs.file.read_file.Goals as goal

pub returns-in_err-source-clause-ends : goal.returns-in_err-source-clause-ends
returns-in_err-source-clause-ends g c =
    find_ends g.row.F-Src.Denot _ _ c.args.name.now c.in_err-source.field-0.0 c.from_residual.result c.from_residual.ensures.1 c.in_err-source.ensures.told (λ e. c.in_err-source.ensures.failed (ap Err e))

pub returns-in_err-outcome-clause-ends : goal.returns-in_err-outcome-clause-ends
returns-in_err-outcome-clause-ends g c =
    let stops = c.in_err-outcome.ensures.stops in
    let found = c.in_ok-source.ensures.found in
    read_ends _ _ c.args.name.now c.in_err-outcome.field-0.0 c.from_residual-in_err-outcome.result stops.0 _ _ c.from_residual-in_err-outcome.ensures.1
    (told_read _ _ _ c.args.name.now stops.0 _ _ c.in_ok-source.ensures.told found c.in_err-outcome.ensures.name stops.1 c.done.ensures.told)
    (file_front _ c.args.name.now stops.0 _ _ found stops.1)
    stops.2 c.in_ok-source.ensures.clean (λ e. c.in_err-outcome.ensures.failed (ap Err e))
    (omega (arith, c.done.ensures.count, c.in_ok-source.ensures.reads_stand))
    (c.done.ensures.rises ∙ ap (λ n. added_faults n (g.F.Src.Source.seen c.read_all-outcome.new.source).faults) c.in_ok-source.ensures.reads_stand)

pub returns-clause-ends : goal.returns-clause-ends
returns-clause-ends g c =
    let found = c.in_ok-source.ensures.found in
    let takes = c.in_ok-outcome.ensures.takes in
    record {
      bytes = c.in_ok-outcome.field-0;
      faults = (g.F.Src.Source.seen c.read_all-outcome.new.source).faults;
      did = told_read _ _ _ c.args.name.now c.in_ok-outcome.field-0 _ _ c.in_ok-source.ensures.told found c.in_ok-outcome.ensures.name takes c.done.ensures.told;
      whole = record { whole = whole_file _ c.args.name.now c.in_ok-outcome.field-0 _ _ found takes c.in_ok-outcome.ensures.whole; few = c.in_ok-outcome.ensures.few };
      so = refl;
    }
