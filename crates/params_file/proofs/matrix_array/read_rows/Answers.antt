use Rattle.std.proofs.Common.{[], map}
use Rattle.std.proofs.lemmas.Result.{err_from_is_err_and}
use Rattle.simm_params.specs.TomlValues.Answers.{is_memory}
use Rattle.simm_params.specs.TomlValues.Paths.{word_of}
use Rattle.simm_params.proofs.TomlValues.Places.{goes_on, ends, is_done}
use Rattle.params_file.specs.Matrix.{row_at}
use Rattle.params_file.proofs.matrix_array.read_rows.Goals as goal

pub loop-index-preserved : goal.loop-index-preserved
loop-index-preserved c =
    rw c.in_ok-push.ensures.items
    (goes_on (row_at (map word_of c.args.path.now) c.args.size c.args.range) [] c.loop-index.rows.items c.loop-index.index c.args.places.now _ c.index-places-index.result c.in_ok-row_at.field-0 c.loop-index-test.true c.index-places-index.is c.in_ok-row_at.ensures c.loop-index.invariant)

pub returns-in_err-row_at : goal.returns-in_err-row_at
returns-in_err-row_at c =
    let p = err_from_is_err_and c.from_residual-in_err-row_at.result c.from_residual-in_err-row_at.ensures.1 in
    rw (p.1, p.2)
    (ends (row_at (map word_of c.args.path.now) c.args.size c.args.range) [] c.loop-index.rows.items c.loop-index.index c.args.places.now _ (is_memory c.in_err-row_at.field-0.0) c.in_err-row_at.field-0.0 c.index-places-index.result c.loop-index-test.true c.index-places-index.is c.in_err-row_at.ensures c.loop-index.invariant)

pub returns : goal.returns
returns c = is_done (row_at (map word_of c.args.path.now) c.args.size c.args.range) [] c.loop-index.rows.items c.loop-index.index c.args.places.now _ c.loop-index-test.false c.loop-index.invariant
