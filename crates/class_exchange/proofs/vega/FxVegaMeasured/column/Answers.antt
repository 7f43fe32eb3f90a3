use Rattle.std.proofs.Common.{refl, rules, arith}
use Rattle.std.proofs.lemmas.Int.{ints}
use Rattle.measured_bucket.specs.declared.tenor_scale.TenorScale.TheVariants as scale
use Rattle.class_exchange.specs.Pairs.{vega_pair}
use Rattle.class_exchange.proofs.PairColumns.{can_weigh, vega_column, pairs_correlated}
use Rattle.class_exchange.proofs.vega.FxVegaMeasured.column.Goals as goal

pub weigh_pairs-requires : goal.weigh_pairs-requires
weigh_pairs-requires c = let x = c.args.self.now in can_weigh x.params.now c.facts.ensures.params x.pairs.now c.pair_facts.ensures c.requires

pub invariant_of-result : goal.invariant_of-result
invariant_of-result c =
    let x = c.args.self.now in
    let its = vega_column x.params.now c.facts.ensures.params x.pairs.now c.pair_facts.ensures c.requires c.in_ok-factors.factors.items c.in_ok-factors.ensures in
    record { sized = search rules; from_one = its.from_one; below = its.below; in_range = its.in_range; cr_low = omega (arith, ints); cr_high = omega (arith, ints) }

pub returns-clause-made : goal.returns-clause-made
returns-clause-made c = let x = c.args.self.now in (vega_column x.params.now c.facts.ensures.params x.pairs.now c.pair_facts.ensures c.requires c.in_ok-factors.factors.items c.in_ok-factors.ensures).made

pub returns-clause-correlated : goal.returns-clause-correlated
returns-clause-correlated c =
    let x = c.args.self.now in
    pairs_correlated x.params.now x.pairs.now scale.Even c.requires (vega_pair x.params.now) (λ a. refl) c.vol_rho-rho.result.rho.0 c.vol_rho-rho.ensures.rho

pub returns-clause-near : goal.returns-clause-near
returns-clause-near c = let x = c.args.self.now in (vega_column x.params.now c.facts.ensures.params x.pairs.now c.pair_facts.ensures c.requires c.in_ok-factors.factors.items c.in_ok-factors.ensures).near
