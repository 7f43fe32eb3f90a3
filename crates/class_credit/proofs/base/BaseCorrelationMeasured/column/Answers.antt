use Rattle.std.proofs.Common.{◌∙◌, ap, sym, subst, All, arith, rules}
use Rattle.std.proofs.lemmas.Int.{ints}
use Rattle.measured_bucket.specs.SimmRules.Lookups.{six}
use Rattle.measured_bucket.specs.Values.{IsSmall}
use Rattle.class_credit.specs.Base.{indices_view}
use Rattle.class_credit.proofs.Indices.{views_small, views_made, index_column, indices_correlated}
use Rattle.class_credit.proofs.base.BaseCorrelationMeasured.column.Goals as goal

pub weigh_indices-requires : goal.weigh_indices-requires
weigh_indices-requires c =
    let p = c.args.self.now.params.now in
    subst (λ w. All (λ index. IsSmall w index.net) c.args.self.now.indices.now) (sym c.base_weight.ensures.value) (views_small p c.facts.ensures.params c.args.self.now.indices.now c.requires)

pub invariant_of-result : goal.invariant_of-result
invariant_of-result c =
    let p = c.args.self.now.params.now in
    let indices = c.args.self.now.indices.now in
    let made = views_made p.base_weight c.base_weight.result.0 indices c.in_ok-factors.factors.items c.in_ok-factors.ensures c.base_weight.ensures.value in
    let its = index_column p c.facts.ensures.params (indices_view indices) c.requires c.in_ok-factors.factors.items made in
    record { sized = search rules; from_one = its.from_one; below = its.below; in_range = its.in_range; cr_low = omega (arith, ints); cr_high = omega (arith, ints) }

pub returns-clause-made : goal.returns-clause-made
returns-clause-made c =
    let p = c.args.self.now.params.now in
    let indices = c.args.self.now.indices.now in
    let made = views_made p.base_weight c.base_weight.result.0 indices c.in_ok-factors.factors.items c.in_ok-factors.ensures c.base_weight.ensures.value in
    (index_column p c.facts.ensures.params (indices_view indices) c.requires c.in_ok-factors.factors.items made).made

pub returns-clause-correlated : goal.returns-clause-correlated
returns-clause-correlated c =
    indices_correlated c.args.self.now.params.now c.facts.ensures.params (indices_view c.args.self.now.indices.now) c.requires c.in_millionths.result.0 (c.in_millionths.ensures.value ∙ ap six c.base_rho.ensures.value)

pub returns-clause-near : goal.returns-clause-near
returns-clause-near c =
    let p = c.args.self.now.params.now in
    let indices = c.args.self.now.indices.now in
    let made = views_made p.base_weight c.base_weight.result.0 indices c.in_ok-factors.factors.items c.in_ok-factors.ensures c.base_weight.ensures.value in
    (index_column p c.facts.ensures.params (indices_view indices) c.requires c.in_ok-factors.factors.items made).near
