use Rattle.std.proofs.Common.{[], map, arith}
use Rattle.std.proofs.lemmas.Result.{err_from_is_err_and}
use Rattle.std.proofs.lemmas.List.Elements.{All-nil, All-push}
use Rattle.simm_params.specs.TomlValues.Answers.{is_memory}
use Rattle.simm_params.specs.TomlValues.Paths.{word_of}
use Rattle.simm_params.proofs.TomlValues.Places.{begins, goes_on, ends, is_done}
use Rattle.simm_params.specs.BucketView.{bucket_view}
use Rattle.params_file.specs.Classes.{bucket_at}
use Rattle.params_file.specs.ClassRanges.{IsClassBucket}
use Rattle.params_file.proofs.bucket_array.read_places.Goals as goal

pub loop-index-init : goal.loop-index-init
loop-index-init c =
    let test = bucket_at (map word_of c.args.path.now) c.args.form.own c.args.form.residual c.place_count-count.result in
    rw c.in_ok-buckets.ensures (record { read = begins test [] c.args.places.now; each = All-nil (IsClassBucket c.args.form.own) })

pub push-requires : goal.push-requires
push-requires c =
    let count = c.loop-index.invariant.read.count in
    record { few = omega (arith, c.loop-index-test.true); behind = c.in_ok-bucket.ensures.behind }

pub loop-index-preserved : goal.loop-index-preserved
loop-index-preserved c =
    let test = bucket_at (map word_of c.args.path.now) c.args.form.own c.args.form.residual c.place_count-count.result in
    let bucket = bucket_view c.in_ok-bucket.bucket in
    rw c.in_ok-push.ensures.ok (record {
      read = goes_on test [] c.loop-index.buckets c.loop-index.index c.args.places.now _ c.index-places-index.result bucket c.loop-index-test.true c.index-places-index.is c.in_ok-bucket.ensures.value c.loop-index.invariant.read;
      each = All-push (IsClassBucket c.args.form.own) c.loop-index.buckets bucket c.loop-index.invariant.each c.in_ok-bucket.ensures.within;
    })

pub returns-in_err-bucket-clause-value : goal.returns-in_err-bucket-clause-value
returns-in_err-bucket-clause-value c =
    let test = bucket_at (map word_of c.args.path.now) c.args.form.own c.args.form.residual c.place_count-count.result in
    let p = err_from_is_err_and c.from_residual-in_err-bucket.result c.from_residual-in_err-bucket.ensures.1 in
    rw (p.1, p.2, ← c.place_count-count.ensures)
    (ends test [] c.loop-index.buckets c.loop-index.index c.args.places.now _ (is_memory c.in_err-bucket.field-0.0) c.in_err-bucket.field-0.0 c.index-places-index.result c.loop-index-test.true c.index-places-index.is c.in_err-bucket.ensures.value c.loop-index.invariant.read)

pub returns-clause-value : goal.returns-clause-value
returns-clause-value c =
    let test = bucket_at (map word_of c.args.path.now) c.args.form.own c.args.form.residual c.place_count-count.result in
    rw (← c.place_count-count.ensures)
    (is_done test [] c.loop-index.buckets c.loop-index.index c.args.places.now _ c.loop-index-test.false c.loop-index.invariant.read)
