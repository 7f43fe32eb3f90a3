use Rattle.std.proofs.Common.{[], arith}
use Rattle.std.proofs.lemmas.Result.{err_from_is_err_and}
use Rattle.toml_values.proofs.Shapes.{items_count-view}
use Rattle.toml_values.proofs.Places.{goes_on, ends, is_done}
use Rattle.csa_terms.specs.Faults.{is_memory}
use Rattle.csa_terms.specs.Grammar.{set_at}
use Rattle.csa_terms.proofs.sets.read_places.Goals as goal

pub returns-in_err-read_place-clause-value : goal.returns-in_err-read_place-clause-value
returns-in_err-read_place-clause-value c =
    let p = err_from_is_err_and c.from_residual-in_err-read_place.result c.from_residual-in_err-read_place.ensures.1 in
    rw (p.1, p.2)
    (ends set_at [] c.loop-index.sets.items c.loop-index.index c.args.places.now _ (is_memory c.in_err-read_place.field-0.0) c.in_err-read_place.field-0.0 c.index-places-index.result c.loop-index-test.true c.index-places-index.is c.in_err-read_place.ensures c.loop-index.invariant)

pub loop-index-preserved : goal.loop-index-preserved
loop-index-preserved c =
    rw c.in_ok-push.ensures.items
    (goes_on set_at [] c.loop-index.sets.items c.loop-index.index c.args.places.now _ c.index-places-index.result c.in_ok-read_place.field-0 c.loop-index-test.true c.index-places-index.is c.in_ok-read_place.ensures c.loop-index.invariant)

pub returns-clause-value : goal.returns-clause-value
returns-clause-value c = is_done set_at [] c.loop-index.sets.items c.loop-index.index c.args.places.now _ c.loop-index-test.false c.loop-index.invariant

pub returns-clause-len : goal.returns-clause-len
returns-clause-len c =
    let count = c.loop-index.invariant.count in
    let past = c.loop-index-test.false in
    let within = c.loop-index.auto.index-end in
    let same = items_count-view c.args.places.now in
    omega arith
