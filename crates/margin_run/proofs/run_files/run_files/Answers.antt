use Rattle.std.proofs.Common.{◌≡◌, [], refl, sym, subst, map, All}
use Rattle.std.specs.String.{string_bytes}
use Rattle.mh_io.specs.Folder.{FolderSeen}
use Rattle.feed_files.specs.CommandFiles.declared.fault.Fault.TheVariants as fault
use Rattle.feed_gate.proofs.Starting.{none_called}
use Rattle.margin_run.proofs.RunLemmas.{no_inputs, no_run, failed_run, has_run}
use Rattle.feed_files.proofs.CommandFiles.FileLemmas.{did_nothing}
use Rattle.margin_run.proofs.run_files.run_files.Goals as goal

pub returns-in_err-params-clause-ends : goal.returns-in_err-params-clause-ends
returns-in_err-params-clause-ends g c =
    failed_run _ _ c.args.files.params.now c.args.files.terms.now (map string_bytes c.args.files.feeds.now) c.in_err-params.field-0.0 c.from_residual.result c.from_residual.ensures.1
    (no_inputs _ _ c.args.files.params.now c.args.files.terms.now (map string_bytes c.args.files.feeds.now) c.in_err-params.field-0.0 c.in_err-params.ensures.ends)

pub returns-in_default-clause-ends : goal.returns-in_default-clause-ends
returns-in_default-clause-ends g c =
    let mid : FolderSeen = g.F.Folder.seen c.read_inputs.new.folder in
    no_run _ mid mid c.args.files.params.now c.args.files.terms.now (map string_bytes c.args.files.feeds.now) c.in_ok-params.field-0.params c.in_ok-params.field-0.terms fault.Memory
    c.in_ok-params.ensures.ends
    (record { before = []; behind = map string_bytes c.args.files.feeds.now; words_are = refl; did = did_nothing mid.told })

pub run_feed_files-requires-clause-empty : goal.run_feed_files-requires-clause-empty
run_feed_files-requires-clause-empty g c lifetimes live =
    subst (All (λ s. s.journal ≡ [])) (sym c.in-Ok.ensures.sets) (none_called c.in_ok-params.field-0.params c.in_ok-params.field-0.terms)

pub returns-in_err-sets-clause-ends : goal.returns-in_err-sets-clause-ends
returns-in_err-sets-clause-ends g c =
    failed_run _ _ c.args.files.params.now c.args.files.terms.now (map string_bytes c.args.files.feeds.now) c.in_err-sets.field-0.0 c.from_residual-in_err-sets.result c.from_residual-in_err-sets.ensures.1
    (no_run _ _ _ c.args.files.params.now c.args.files.terms.now (map string_bytes c.args.files.feeds.now) c.in_ok-params.field-0.params c.in_ok-params.field-0.terms c.in_err-sets.field-0.0 c.in_ok-params.ensures.ends c.in_err-sets.ensures.ends)

pub returns-clause-ends : goal.returns-clause-ends
returns-clause-ends g c =
    has_run _ _ _ c.args.files.params.now c.args.files.terms.now (map string_bytes c.args.files.feeds.now) c.in_ok-params.field-0.params c.in_ok-params.field-0.terms c.in-Ok.sets.items c.in_ok-sets.field-0.sets.items c.in_ok-sets.field-0.reports.items
    c.in_ok-params.ensures.ends
    c.in-Ok.ensures.sets c.in-Ok.ensures.apart c.in_ok-sets.ensures.ends
