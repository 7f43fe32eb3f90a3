use Rattle.std.proofs.Common.{◌≡◌, pos, ◌-ℤ◌, rules, arith}
use Rattle.std.proofs.lemmas.Int.{ints}
use Rattle.std.specs.Int.{int_max}
use Rattle.csa_calls.proofs.excess_at.Goals as goal

pub returns-clause-value : goal.returns-clause-value
returns-clause-value c =
    let above : c.credit_support.result ≡ int_max (c.args.margin -ℤ c.args.threshold) (pos 0) = search rules in
    omega (arith, ints)
