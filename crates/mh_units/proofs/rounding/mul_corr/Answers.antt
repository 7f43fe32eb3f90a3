use Rattle.std.proofs.Common.{arith, pos, ◌*ℤ◌}
use Rattle.std.proofs.lemmas.Grind.{common_steps}
use Rattle.std.proofs.lemmas.Int.{ints}
use Rattle.mh_units.proofs.Roundings.{trunc_from}
use Rattle.mh_units.proofs.rounding.mul_corr.Goals as goal

pub returns-clause-rule : goal.returns-clause-rule
returns-clause-rule c = trunc_from (c.args.a.0 *ℤ c.args.b.0) (pos 1000000) _ (omega (arith, ints)) (grind (arith, common_steps))
