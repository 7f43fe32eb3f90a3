use Rattle.std.proofs.Common.{rules, arith}
use Rattle.std.proofs.lemmas.Int.{ints}
use Rattle.csa_calls.specs.CallRule.{excess_at}
use Rattle.csa_calls.proofs.Rules.{call_rule_from, call_amount_from}
use Rattle.csa_calls.proofs.call_amount_at.Goals as goal

pub returns-clause-rule : goal.returns-clause-rule
returns-clause-rule c = call_rule_from (excess_at c.args.margin c.args.booked c.args.threshold.0) c.args.terms.now _ c.facts.ensures.rounding (search rules)

pub returns-clause-amount : goal.returns-clause-amount
returns-clause-amount c =
    call_amount_from (excess_at c.args.margin c.args.booked c.args.threshold.0) c.excess_at-excess.result c.args.margin c.args.booked c.args.terms.now _ c.facts.ensures.rounding (search rules) (omega (arith, ints, c.excess_at-excess.ensures.size)) (search rules)
