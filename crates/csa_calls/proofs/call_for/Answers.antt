use Rattle.std.proofs.Common.{rules, arith, pos, ◌-ℤ◌}
use Rattle.std.proofs.lemmas.Int.{ints}
use Rattle.std.specs.Int.{w128, cast_signed, cast_unsigned}
use Rattle.csa_calls.proofs.Rules.{return_of}
use Rattle.csa_calls.proofs.call_for.Goals as goal

pub returns-then-is_return : goal.returns-then-is_return
returns-then-is_return c =
    return_of c.args.excess (cast_signed w128 (cast_unsigned w128 (pos 0 -ℤ cast_signed w128 (cast_unsigned w128 c.args.excess)))) _ c.args.terms.now (omega (arith, ints)) (search rules) (search rules) (search rules)
