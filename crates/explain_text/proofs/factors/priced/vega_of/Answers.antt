use Rattle.std.proofs.Common.{ℕ, List, ◌∙◌, ap, map, subst, sym}
use Rattle.measured_bucket.specs.SimmKinds.declared.kinds.Measure.TheVariants as measure
use Rattle.measured_bucket.specs.SimmKinds.Order.{name_cmp}
use Rattle.measured_bucket.specs.SimmRules.Priced.{names_of, tenors_of, weighted_name, price_vega_risk}
use Rattle.measured_bucket.specs.SimmParams.ListedBuckets.{priced_bucket_view}
use Rattle.measured_bucket.specs.Runs.{AreTotals}
use Rattle.measured_bucket.specs.declared.tenor_scale.TenorScale.TheVariants as scale
use Rattle.class_priced.specs.Names.{volatility_nets}
use Rattle.class_priced.specs.Sums.{name_sums}
use Rattle.class_priced.specs.Unweighed.{unweighed_vega}
use Rattle.class_priced.specs.Weights.{vega_name}
use Rattle.explain_text.specs.Factors.{name_vega_lines, vega_of_name}
use Rattle.explain_text.specs.Names.{price_name}
use Rattle.explain_text.proofs.OverTenors.{names_from, names_weighted}
use Rattle.explain_text.proofs.Weighed.{added}
use Rattle.explain_text.proofs.factors.priced.vega_of.Goals as goal

pub volatile_names-requires-clause-order : goal.volatile_names-requires-clause-order
volatile_names-requires-clause-order c = c.requires.ascends

pub volatile_names-requires-clause-sizes : goal.volatile_names-requires-clause-sizes
volatile_names-requires-clause-sizes c = c.requires.range.sizes

pub explain-requires : goal.explain-requires
explain-requires c =
    let listed = c.args.listed in
    subst (AreTotals name_cmp scale.Even (λ (x : List ℕ). listed.bucket.sigma.0)) (sym (ap name_sums c.as_slice.ensures.value))
    (c.in_ok-names.ensures.measured listed.bucket.sigma.0 listed.weighed.sigma.low c.requires)

pub returns : goal.returns
returns c =
    let product = c.args.product in
    let bucket = c.args.bucket.now in
    let amounts = volatility_nets c.args.lent.now.factors in
    let there = ap name_sums c.as_slice.ensures.value ∙ c.in_ok-names.ensures.sums in
    let b = priced_bucket_view c.args.listed.bucket in
    let hvr = c.args.listed.hvr.0 in
    added measure.Vega product _ (price_name c.volatility_type.result bucket)
    (vega_of_name hvr b amounts) (λ name. weighted_name (b.terms).vrw ((b.terms).thresholds).vega name (price_vega_risk hvr b.sigma (tenors_of amounts name))) (names_of amounts) c.in_ok-factors.factors.items
    c.push_factors.result c.as_slice-2.result.now c.args.text.now c.push_factors.new.text _
    c.as_slice-2.ensures.value
    (c.in_ok-factors.ensures.from ∙ ap (map (unweighed_vega hvr b)) there ∙ names_from b amounts hvr)
    (c.in_ok-factors.ensures.weighted ∙ ap (map (vega_name hvr b)) there ∙ names_weighted b amounts hvr)
    (ap (λ kind. name_vega_lines product kind bucket hvr amounts b) c.volatility_type.ensures) c.push_factors.ensures
