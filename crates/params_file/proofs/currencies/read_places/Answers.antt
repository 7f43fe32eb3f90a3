use Rattle.std.proofs.Common.{[], map}
use Rattle.simm_params.specs.TomlValues.Paths.{word_of}
use Rattle.std.proofs.lemmas.Result.{err_from_is_err_and}
use Rattle.simm_params.specs.TomlValues.Answers.{is_memory}
use Rattle.simm_params.proofs.TomlValues.Places.{begins, goes_on, ends, is_done}
use Rattle.params_file.specs.Currencies.{currency_at}
use Rattle.params_file.proofs.currencies.read_places.Goals as goal

pub loop-index-init : goal.loop-index-init
loop-index-init c = rw c.in_ok-list.ensures (begins (currency_at (map word_of c.args.path.now)) [] c.args.places.now)

pub loop-index-preserved : goal.loop-index-preserved
loop-index-preserved c =
    rw c.in_ok-push.ensures.ok
    (goes_on (currency_at (map word_of c.args.path.now)) [] c.loop-index.list c.loop-index.index c.args.places.now _ c.index-places-index.result c.in_ok-currency_at.field-0 c.loop-index-test.true c.index-places-index.is c.in_ok-currency_at.ensures c.loop-index.invariant)

pub returns-in_err-currency_at : goal.returns-in_err-currency_at
returns-in_err-currency_at c =
    let p = err_from_is_err_and c.from_residual-in_err-currency_at.result c.from_residual-in_err-currency_at.ensures.1 in
    rw (p.1, p.2)
    (ends (currency_at (map word_of c.args.path.now)) [] c.loop-index.list c.loop-index.index c.args.places.now _ (is_memory c.in_err-currency_at.field-0.0) c.in_err-currency_at.field-0.0 c.index-places-index.result c.loop-index-test.true c.index-places-index.is c.in_err-currency_at.ensures c.loop-index.invariant)

pub returns : goal.returns
returns c = is_done (currency_at (map word_of c.args.path.now)) [] c.loop-index.list c.loop-index.index c.args.places.now _ c.loop-index-test.false c.loop-index.invariant
