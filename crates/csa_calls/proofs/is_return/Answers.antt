use Rattle.std.proofs.Common.{rules, arith, pos, ◌-ℤ◌}
use Rattle.std.proofs.lemmas.Int.{ints}
use Rattle.std.specs.Int.{w128, cast_signed, cast_unsigned}
use Rattle.csa_calls.proofs.Rules.{return_test}
use Rattle.csa_calls.proofs.is_return.Goals as goal

pub returns : goal.returns
returns c =
    return_test c.args.excess (cast_signed w128 (cast_unsigned w128 c.max.result)) (cast_signed w128 (cast_unsigned w128 (pos 0 -ℤ cast_signed w128 (cast_unsigned w128 c.args.excess)))) c.args.terms.now c.facts.ensures.rounding (search rules) (omega (arith, ints))
