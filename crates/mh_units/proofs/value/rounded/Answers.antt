use Rattle.std.proofs.Common.{arith, ◌^◌, ◌++◌, ◌-◌, ◌+◌, ℕ, length, length-append, ◌∙◌}
use Rattle.mh_units.proofs.Numbers.{rounded_none, rounded_up, rounded_down}
use Rattle.mh_units.proofs.value.rounded.Goals as goal

pub returns-then-dropped-len : goal.returns-then-dropped-len
returns-then-dropped-len c =
    rounded_none (c.args.whole.now ++ c.args.fraction.now) c.args.dropped (10 ^ 16) c.requires.digits (omega (arith, length-append {A = ℕ}))

pub returns-then-digit_at-ge53 : goal.returns-then-digit_at-ge53
returns-then-digit_at-ge53 c =
    c.min.ensures ∙ rounded_up (c.args.whole.now ++ c.args.fraction.now) (length c.args.whole.now + length c.args.fraction.now - c.args.dropped) c.args.dropped c.leading-size.result (10 ^ 16) c.requires.digits c.requires.some (omega (arith, length-append {A = ℕ})) (omega (arith, c.digit_at.ensures)) c.leading-size.ensures

pub returns-else-digit_at-ge53 : goal.returns-else-digit_at-ge53
returns-else-digit_at-ge53 c =
    rounded_down (c.args.whole.now ++ c.args.fraction.now) (length c.args.whole.now + length c.args.fraction.now - c.args.dropped) c.args.dropped c.leading-size.result (10 ^ 16) c.requires.digits c.requires.some (omega (arith, length-append {A = ℕ})) (omega (arith, c.digit_at.ensures)) c.leading-size.ensures
