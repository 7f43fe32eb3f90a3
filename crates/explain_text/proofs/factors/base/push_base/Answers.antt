use Rattle.std.proofs.Common.{◌∙◌, ap, subst, sym}
use Rattle.measured_bucket.specs.SimmKinds.declared.kinds.Measure.TheVariants as measure
use Rattle.measured_bucket.specs.SimmRules.BaseCorrelation.{weighted_index}
use Rattle.class_credit.specs.declared.base.IndexNet.{IndexNet}
use Rattle.class_credit.specs.Base.{indices_view, AreIndices}
use Rattle.class_credit.specs.Unweighed.{unweighed_index}
use Rattle.explain_text.specs.Factors.{index_lines}
use Rattle.explain_text.specs.Names.{index_name}
use Rattle.explain_text.proofs.Weighed.{added}
use Rattle.explain_text.proofs.factors.base.push_base.Goals as goal

pub explain-requires : goal.explain-requires
explain-requires c = subst (AreIndices c.args.params.now) (sym (ap indices_view c.as_slice.ensures.value ∙ c.in_ok-indices.ensures)) c.requires

pub returns : goal.returns
returns c =
    let p = c.args.params.now in
    added measure.BaseCorr c.args.product (λ (n : IndexNet). n.index.now) index_name
    (unweighed_index p) (weighted_index p) (indices_view c.as_slice.result.now) c.in_ok-factors.factors.items
    c.push_factors.result c.as_slice-2.result.now c.args.text.now c.push_factors.new.text _
    c.as_slice-2.ensures.value c.in_ok-factors.ensures.from c.in_ok-factors.ensures.weighted
    (ap (index_lines p c.args.product) (ap indices_view c.as_slice.ensures.value ∙ c.in_ok-indices.ensures)) c.push_factors.ensures
