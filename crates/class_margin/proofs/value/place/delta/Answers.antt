use Rattle.std.proofs.Common.{ap}
use Rattle.std.specs.Prelude.{option_map}
use Rattle.class_rates.specs.FactorBook.declared.value.PlaceValue.TheVariants as value
use Rattle.class_margin.proofs.value.place.delta.Goals as goal

pub returns-clause-value : goal.returns-clause-value
returns-clause-value g c = ap (option_map (value.Delta c.args.slot.now)) c.in_ok-value.ensures.value

pub returns-clause-sized : goal.returns-clause-sized
returns-clause-sized g c = c.in_ok-value.ensures.sized
