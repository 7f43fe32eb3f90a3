use Rattle.std.proofs.Common.{rules, arith, ◌^◌, ◌++◌, ◌+◌, length, length-append, ℕ}
use Rattle.mh_units.proofs.Numbers.{shifted_up, shifted_down}
use Rattle.mh_units.proofs.value.shifted.Goals as goal

pub returns-then-down-up : goal.returns-then-down-up
returns-then-down-up c =
    shifted_up (c.args.whole.now ++ c.args.fraction.now) (length c.args.whole.now + length c.args.fraction.now) c.args.up c.args.down c.leading-all.result _ (10 ^ 16) (omega (arith, length-append {A = ℕ})) (omega arith) c.leading-all.ensures (search rules)

pub returns-else-down-up : goal.returns-else-down-up
returns-else-down-up c =
    shifted_down (c.args.whole.now ++ c.args.fraction.now) c.args.up c.args.down c.rounded.result (10 ^ 16) (omega arith) c.rounded.ensures
