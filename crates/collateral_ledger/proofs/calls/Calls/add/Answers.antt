use Rattle.std.proofs.Common.{rules, ap, ◌∙◌, arith}
use Rattle.csa_terms.proofs.MhUnits.Integers.{same64}
use Rattle.collateral_ledger.specs.Kept.{Open}
use Rattle.collateral_ledger.proofs.Numbers.{appended, sum_small}
use Rattle.collateral_ledger.proofs.Sums.{sum_fits}
use Rattle.collateral_ledger.proofs.calls.Calls.add.Goals as goal

pub overflow_add-self : goal.overflow_add-self
overflow_add-self c =
    sum_fits c.self.inside.settled c.settled-settled.result (sum_small c.self.inside.added c.self.inside.settled c.self.inside.outstanding.entries c.self.invariant (search rules)) (omega (arith, c.settled-settled.ensures.size))

pub invariant_of-self-2 : goal.invariant_of-self-2
invariant_of-self-2 c =
    let call : Open = record { flow = c.args.flow; amount = c.args.amount } in
    (appended c.self.inside.outstanding.entries c.insert.new.self.entries c.self.inside.added c.self.inside.settled c.settled-settled.result c.new-call.result call c.args.self.now
    c.self.view_is c.self.invariant (search rules) c.requires.amount (c.new-call.ensures ∙ ap (λ z. record call { amount = z }) (same64 c.args.amount c.ranges.amount))
    c.settled-settled.ensures.value c.settled-settled.ensures.size c.in_ok-insert.ensures.entries).kept

pub returns-clause-ok : goal.returns-clause-ok
returns-clause-ok c =
    let call : Open = record { flow = c.args.flow; amount = c.args.amount } in
    (appended c.self.inside.outstanding.entries c.insert.new.self.entries c.self.inside.added c.self.inside.settled c.settled-settled.result c.new-call.result call c.args.self.now
    c.self.view_is c.self.invariant (search rules) c.requires.amount (c.new-call.ensures ∙ ap (λ z. record call { amount = z }) (same64 c.args.amount c.ranges.amount))
    c.settled-settled.ensures.value c.settled-settled.ensures.size c.in_ok-insert.ensures.entries).seen
