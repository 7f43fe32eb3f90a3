use Rattle.std.proofs.Common.{rules, FitsSigned, ◌*ℤ◌}
use Rattle.std.proofs.lemmas.Int.{to_z-of_z}
use Rattle.std.specs.Int.{w128}
use Rattle.csa_calls.proofs.Multiples.{least_multiple_from, multiple_up_below, multiple_up_size}
use Rattle.csa_calls.proofs.multiple_up.Goals as goal

pub times-requires-clause-product_in_range : goal.times-requires-clause-product_in_range
times-requires-clause-product_in_range c =
    let fits : FitsSigned w128 c.div_up.result = search rules in
    let unit_fits : FitsSigned w128 c.args.unit = c.ranges.unit in
    simp to_z-of_z (multiple_up_size c.args.amount c.args.unit (c.div_up.result *ℤ c.args.unit) c.requires.positive c.requires.amount_in_range c.requires.unit.low c.requires.unit.high (search rules))

pub returns-clause-rule : goal.returns-clause-rule
returns-clause-rule c = least_multiple_from c.args.amount c.args.unit _ c.requires.unit.low (search rules)

pub returns-clause-size : goal.returns-clause-size
returns-clause-size c = multiple_up_below c.args.amount c.args.unit _ c.requires.unit.low (search rules)
