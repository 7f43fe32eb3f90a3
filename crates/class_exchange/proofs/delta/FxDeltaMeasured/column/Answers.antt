use Rattle.std.proofs.Common.{arith}
use Rattle.std.proofs.lemmas.Int.{ints}
use Rattle.class_exchange.proofs.ByCategory.{rho_of-symmetric, rho_of-small}
use Rattle.class_exchange.proofs.CurrencyColumns.{can_weigh, counted, delta_column, delta_correlated}
use Rattle.class_exchange.proofs.delta.FxDeltaMeasured.column.Goals as goal

pub weigh_currencies-requires : goal.weigh_currencies-requires
weigh_currencies-requires c = let x = c.args.self.now in can_weigh x.params.now c.facts.ensures.params c.facts.ensures.weighed x.currencies.now c.requires

pub invariant_of-rho : goal.invariant_of-rho
invariant_of-rho c = let p = c.args.self.now.params.now in record { symmetric = rho_of-symmetric p; at_most_one = λ a b. rho_of-small p a b c.facts.ensures.params }

pub invariant_of-result : goal.invariant_of-result
invariant_of-result c =
    let x = c.args.self.now in
    let its = delta_column x.params.now c.facts.ensures.params c.facts.ensures.weighed x.currencies.now c.requires c.in_ok-factors.factors.items c.in_ok-factors.ensures in
    let held = counted x.params.now c.facts.ensures.params c.facts.ensures.weighed x.currencies.now c.requires c.in_ok-factors.factors.items c.in_ok-factors.ensures in
    record { sized = held; from_one = its.from_one; below = its.below; in_range = its.in_range; cr_low = omega (arith, ints); cr_high = omega (arith, ints) }

pub returns-clause-made : goal.returns-clause-made
returns-clause-made c =
    let x = c.args.self.now in
    (delta_column x.params.now c.facts.ensures.params c.facts.ensures.weighed x.currencies.now c.requires c.in_ok-factors.factors.items c.in_ok-factors.ensures).made

pub returns-clause-correlated : goal.returns-clause-correlated
returns-clause-correlated c = let x = c.args.self.now in delta_correlated x.params.now c.facts.ensures.params c.facts.ensures.weighed x.currencies.now c.requires

pub returns-clause-near : goal.returns-clause-near
returns-clause-near c =
    let x = c.args.self.now in
    (delta_column x.params.now c.facts.ensures.params c.facts.ensures.weighed x.currencies.now c.requires c.in_ok-factors.factors.items c.in_ok-factors.ensures).near
