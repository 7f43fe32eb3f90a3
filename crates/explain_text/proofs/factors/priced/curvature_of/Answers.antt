use Rattle.std.proofs.Common.{ℕ, List, ◌∙◌, ap, map, subst, sym}
use Rattle.measured_bucket.specs.SimmKinds.declared.kinds.Measure.TheVariants as measure
use Rattle.measured_bucket.specs.SimmKinds.Order.{name_cmp}
use Rattle.measured_bucket.specs.SimmRules.Priced.{names_of, curved_name as rule_name}
use Rattle.measured_bucket.specs.SimmParams.ListedBuckets.{priced_bucket_view}
use Rattle.measured_bucket.specs.Runs.{AreTotals}
use Rattle.measured_bucket.specs.declared.tenor_scale.TenorScale.TheVariants as scale
use Rattle.class_priced.specs.Names.{volatility_nets}
use Rattle.class_priced.specs.Sums.{name_sums}
use Rattle.class_priced.specs.Unweighed.{uncurved_name}
use Rattle.class_priced.specs.Weights.{curved_name}
use Rattle.explain_text.specs.Factors.{name_curvature_lines, curvature_of_name}
use Rattle.explain_text.specs.Names.{price_name}
use Rattle.explain_text.proofs.OverTenors.{names_uncurved, names_curved}
use Rattle.explain_text.proofs.Weighed.{added}
use Rattle.explain_text.proofs.factors.priced.curvature_of.Goals as goal

pub volatile_names-requires-clause-order : goal.volatile_names-requires-clause-order
volatile_names-requires-clause-order c = c.requires.ascends

pub volatile_names-requires-clause-sizes : goal.volatile_names-requires-clause-sizes
volatile_names-requires-clause-sizes c = c.requires.range.sizes

pub explain-requires : goal.explain-requires
explain-requires c =
    let listed = c.args.listed in
    subst (AreTotals name_cmp scale.Curved (λ (x : List ℕ). listed.bucket.sigma.0)) (sym (ap name_sums c.as_slice.ensures.value))
    (c.in_ok-names.ensures.measured listed.bucket.sigma.0 listed.weighed.sigma.low c.requires)

pub returns : goal.returns
returns c =
    let product = c.args.product in
    let bucket = c.args.bucket.now in
    let amounts = volatility_nets c.args.lent.now.factors in
    let there = ap name_sums c.as_slice.ensures.value ∙ c.in_ok-names.ensures.sums in
    let b = priced_bucket_view c.args.listed.bucket in
    added measure.Curvature product _ (price_name c.volatility_type.result bucket)
    (curvature_of_name b amounts) (rule_name b amounts) (names_of amounts) c.in_ok-factors.factors.items
    c.push_factors.result c.as_slice-2.result.now c.args.text.now c.push_factors.new.text _
    c.as_slice-2.ensures.value
    (c.in_ok-factors.ensures.from ∙ ap (map (uncurved_name b)) there ∙ names_uncurved b amounts)
    (c.in_ok-factors.ensures.weighted ∙ ap (map (curved_name b)) there ∙ names_curved b amounts)
    (ap (λ kind. name_curvature_lines product kind bucket amounts b) c.volatility_type.ensures) c.push_factors.ensures
