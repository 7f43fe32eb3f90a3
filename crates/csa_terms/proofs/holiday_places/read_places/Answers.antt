use Rattle.std.proofs.Common.{w32, FitsSigned, arith}
use Rattle.std.proofs.lemmas.Int.{to_z-of_z, ints}
use Rattle.std.proofs.lemmas.Result.{err_from_is_err_and}
use Rattle.toml_values.proofs.Shapes.{items_count-view}
use Rattle.csa_terms.specs.Faults.{is_memory}
use Rattle.csa_terms.proofs.Holidays.{days_begin, day_goes_on, day_ends, days_done}
use Rattle.csa_terms.proofs.holiday_places.read_places.Goals as goal

pub loop-index-init : goal.loop-index-init
loop-index-init c = rw c.new-days.ensures (days_begin c.args.set c.args.places.now)

pub returns-in_err-read_place : goal.returns-in_err-read_place
returns-in_err-read_place c =
    let p = err_from_is_err_and c.from_residual.result c.from_residual.ensures.1 in
    rw (p.1, p.2)
    (day_ends c.args.set c.loop-index.days c.loop-index.index c.args.places.now c.loop-index.invariant (is_memory c.in_err-read_place.field-0.0) c.in_err-read_place.field-0.0 c.index-places-index.result c.loop-index-test.true c.index-places-index.is c.in_err-read_place.ensures.value)

pub insert-requires-clause-few : goal.insert-requires-clause-few
insert-requires-clause-few c =
    let count = c.loop-index.invariant.count in
    let few = c.requires in
    let same = items_count-view c.args.places.now in
    let within = c.loop-index-test.true in
    omega arith

pub loop-index-preserved : goal.loop-index-preserved
loop-index-preserved c =
    let calendar = c.in_ok-read_place.ensures.calendar in
    let fits : FitsSigned w32 c.in_ok-read_place.field-0 = omega (arith, ints) in
    rw (c.in_ok-insert.ensures.ok, to_z-of_z w32 c.in_ok-read_place.field-0 fits)
    (day_goes_on c.args.set c.loop-index.days c.loop-index.index c.args.places.now c.loop-index.invariant c.index-places-index.result c.in_ok-read_place.field-0 c.loop-index-test.true c.index-places-index.is c.in_ok-read_place.ensures.value)

pub returns : goal.returns
returns c = days_done c.args.set c.loop-index.days c.loop-index.index c.args.places.now c.loop-index.invariant c.loop-index-test.false
