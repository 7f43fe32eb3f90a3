use Rattle.std.proofs.Common.{rules, ap, ◌∙◌, sym, is_some, arith}
use Rattle.collateral_ledger.specs.Kept.{Called}
use Rattle.collateral_ledger.specs.Changes.{has_call}
use Rattle.collateral_ledger.proofs.Numbers.{has_call-calls_at, closed, sum_small}
use Rattle.collateral_ledger.proofs.Sums.{difference_fits}
use Rattle.collateral_ledger.proofs.calls.Calls.close.Goals as goal

pub returns-in_default-clause-found : goal.returns-in_default-clause-found
returns-in_default-clause-found c =
    ap is_some c.in_default.ensures.value ∙ has_call-calls_at c.args.number c.self.inside.outstanding.entries ∙ ap (λ (b : Called). has_call c.args.number b.calls) c.self.view_is

pub overflow_sub-self : goal.overflow_sub-self
overflow_sub-self c =
    difference_fits c.self.inside.settled c.settled.result (sum_small c.self.inside.added c.self.inside.settled c.self.inside.outstanding.entries c.self.invariant (search rules)) (omega (arith, c.settled.ensures.size))

pub invariant_of-self-2 : goal.invariant_of-self-2
invariant_of-self-2 c =
    (closed c.self.inside.outstanding.entries c.remove.new.self.entries c.self.inside.added c.args.number c.self.inside.settled c.settled.result c.in-Some.call c.args.self.now
    c.self.view_is c.self.invariant (search rules) c.len-count.ensures.ordered (sym c.in-Some.ensures.value) c.settled.ensures.value c.settled.ensures.size c.remove.ensures.entries).kept

pub returns-clause-found : goal.returns-clause-found
returns-clause-found c =
    ap is_some c.in-Some.ensures.value ∙ has_call-calls_at c.args.number c.self.inside.outstanding.entries ∙ ap (λ (b : Called). has_call c.args.number b.calls) c.self.view_is

pub returns-clause-closed : goal.returns-clause-closed
returns-clause-closed c =
    (closed c.self.inside.outstanding.entries c.remove.new.self.entries c.self.inside.added c.args.number c.self.inside.settled c.settled.result c.in-Some.call c.args.self.now
    c.self.view_is c.self.invariant (search rules) c.len-count.ensures.ordered (sym c.in-Some.ensures.value) c.settled.ensures.value c.settled.ensures.size c.remove.ensures.entries).seen
