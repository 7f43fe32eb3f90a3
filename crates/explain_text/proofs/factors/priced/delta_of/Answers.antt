use Rattle.std.proofs.Common.{◌∙◌, ap, subst, sym}
use Rattle.measured_bucket.specs.SimmKinds.declared.kinds.Measure.TheVariants as measure
use Rattle.measured_bucket.specs.SimmRules.Priced.{weighted_name}
use Rattle.measured_bucket.specs.SimmParams.ListedBuckets.{priced_bucket_view}
use Rattle.class_priced.specs.declared.names.NameNet.{NameNet}
use Rattle.class_priced.specs.Names.{names_view, AreNames}
use Rattle.class_priced.specs.Unweighed.{unweighed_name}
use Rattle.explain_text.specs.Factors.{name_lines}
use Rattle.explain_text.specs.Names.{price_name}
use Rattle.explain_text.proofs.Weighed.{added}
use Rattle.explain_text.proofs.factors.priced.delta_of.Goals as goal

pub explain-requires : goal.explain-requires
explain-requires c = subst (AreNames c.args.listed.bucket.terms.weight.0) (sym (ap names_view c.as_slice.ensures.value ∙ c.in_ok-names.ensures)) c.requires

pub returns : goal.returns
returns c =
    let product = c.args.product in
    let bucket = c.args.bucket.now in
    let b = priced_bucket_view c.args.listed.bucket in
    added measure.Delta product (λ (n : NameNet). n.name.now) (price_name c.price_type.result bucket)
    (unweighed_name b) (λ a. weighted_name (b.terms).weight ((b.terms).thresholds).delta a.of a.amount) (names_view c.as_slice.result.now) c.in_ok-factors.factors.items
    c.push_factors.result c.as_slice-2.result.now c.args.text.now c.push_factors.new.text _
    c.as_slice-2.ensures.value c.in_ok-factors.ensures.from c.in_ok-factors.ensures.weighted
    (λ k. name_lines product (c.price_type.ensures k) bucket ((ap names_view c.as_slice.ensures.value ∙ c.in_ok-names.ensures) k) b)
    c.push_factors.ensures
