use Rattle.std.proofs.lemmas.Result.{err_from_is_err_and}
use Rattle.params_file.specs.Faults.{is_memory}
use Rattle.params_file.specs.Thickness.{thick_bucket}
use Rattle.params_file.proofs.Passes.{none_passed, one_more, one_fails, all_passed}
use Rattle.params_file.proofs.class_thickness.check_each.Goals as goal

pub loop-index-init : goal.loop-index-init
loop-index-init c = none_passed (thick_bucket c.args.class.now c.args.kind) _ c.args.buckets.now

pub loop-index-preserved : goal.loop-index-preserved
loop-index-preserved c =
    one_more (thick_bucket c.args.class.now c.args.kind) _ c.loop-index.index c.args.buckets.now c.loop-index.invariant c.index-buckets-index.result c.loop-index-test.true c.index-buckets-index.is c.in_ok-check_bucket.ensures

pub returns-in_err-check_bucket : goal.returns-in_err-check_bucket
returns-in_err-check_bucket c =
    let p = err_from_is_err_and c.from_residual.result c.from_residual.ensures.1 in
    rw (p.1, p.2)
    (one_fails (thick_bucket c.args.class.now c.args.kind) _ c.loop-index.index c.args.buckets.now c.loop-index.invariant (is_memory c.in_err-check_bucket.field-0.0) c.in_err-check_bucket.field-0.0 c.index-buckets-index.result c.loop-index-test.true c.index-buckets-index.is c.in_err-check_bucket.ensures)

pub returns : goal.returns
returns c = all_passed (thick_bucket c.args.class.now c.args.kind) _ c.loop-index.index c.args.buckets.now c.loop-index.invariant c.loop-index-test.false
