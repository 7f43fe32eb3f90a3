use Rattle.std.proofs.Common.{[], map}
use Rattle.std.proofs.lemmas.Result.{err_from_is_err_and}
use Rattle.simm_params.specs.TomlValues.Answers.{is_memory}
use Rattle.simm_params.specs.TomlValues.Paths.{word_of}
use Rattle.simm_params.proofs.TomlValues.Places.{begins, goes_on, ends, is_done}
use Rattle.params_file.specs.Matrix.{rate_at}
use Rattle.params_file.proofs.rate_array.read_places.Goals as goal

pub loop-index-init : goal.loop-index-init
loop-index-init c = rw c.in_ok-rates.ensures (begins (rate_at (map word_of c.args.path.now) c.args.range) [] c.args.places.now)

pub loop-index-preserved : goal.loop-index-preserved
loop-index-preserved c =
    rw c.in_ok-push.ensures.ok
    (goes_on (rate_at (map word_of c.args.path.now) c.args.range) [] c.loop-index.rates c.loop-index.index c.args.places.now _ c.index-places-index.result c.in_ok-rate_at.field-0.0 c.loop-index-test.true c.index-places-index.is c.in_ok-rate_at.ensures c.loop-index.invariant)

pub returns-in_err-rate_at : goal.returns-in_err-rate_at
returns-in_err-rate_at c =
    let p = err_from_is_err_and c.from_residual-in_err-rate_at.result c.from_residual-in_err-rate_at.ensures.1 in
    rw (p.1, p.2)
    (ends (rate_at (map word_of c.args.path.now) c.args.range) [] c.loop-index.rates c.loop-index.index c.args.places.now _ (is_memory c.in_err-rate_at.field-0.0) c.in_err-rate_at.field-0.0 c.index-places-index.result c.loop-index-test.true c.index-places-index.is c.in_err-rate_at.ensures c.loop-index.invariant)

pub returns : goal.returns
returns c = is_done (rate_at (map word_of c.args.path.now) c.args.range) [] c.loop-index.rates c.loop-index.index c.args.places.now _ c.loop-index-test.false c.loop-index.invariant
