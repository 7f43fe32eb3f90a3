use Rattle.std.proofs.Common.{rules, arith, ◌^◌}
use Rattle.mh_units.proofs.Numbers.{leading_both}
use Rattle.mh_units.proofs.value.leading.Goals as goal

pub returns-else-count-whole : goal.returns-else-count-whole
returns-else-count-whole c =
    leading_both c.args.whole.now c.args.fraction.now c.args.count c.capped_number-front.result c.capped_number-else-count-whole.result (10 ^ 16) (omega arith) c.capped_number-front.ensures (search rules)
