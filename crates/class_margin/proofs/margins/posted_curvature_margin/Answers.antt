use Rattle.std.proofs.Common.{◌≡◌, ◌∙◌, sym, ap, subst}
use Rattle.std.specs.List.{AllByRecursion}
use Rattle.std.proofs.lemmas.Result.{IfOk-weaker}
use Rattle.negated_book.specs.Negated.{negated_factors}
use Rattle.class_margin.specs.Across.{buckets_of}
use Rattle.class_margin.specs.Parts.{curvature_parts}
use Rattle.class_margin.specs.curvature.Combine.{curvature_across, AreParts}
use Rattle.class_margin.specs.names_delta.Values.{nets_in}
use Rattle.class_margin.specs.volatility.Curvature.{class_curvature_of, negated_buckets, CanBeNegated}
use Rattle.class_margin.proofs.Valued.{Slotted}
use Rattle.class_margin.proofs.volatility.CurvatureClasses.{class_curvatures, curvatures_fit}
use Rattle.class_margin.proofs.volatility.NegatedBooks.{marginable}
use Rattle.class_margin.proofs.volatility.NegatedCurvature.{parts-negated, parts-small}
use Rattle.class_margin.proofs.margins.posted_curvature_margin.Goals as goal

pub negated_parts-requires : goal.negated_parts-requires
negated_parts-requires c =
    let p = c.args.params.now in
    let its = c.requires in
    let made : c.as_slice.result.now ≡ curvature_parts c.args.values.now = c.as_slice.ensures.value ∙ c.in_ok-parts.ensures in
    subst (AllByRecursion (λ (part : Slotted). CanBeNegated part.1)) (sym made)
    (parts-small p c.args.product c.args.class its.factors (curvature_parts c.args.values.now) (class_curvatures p c.args.product c.args.class its.factors c.args.values.now its.are))

pub combine-requires : goal.combine-requires
combine-requires c =
    let p = c.args.params.now in
    let its = c.requires in
    let parts = curvature_parts c.args.values.now in
    let made : c.as_slice.result.now ≡ curvature_parts c.args.values.now = c.as_slice.ensures.value ∙ c.in_ok-parts.ensures in
    let again : c.as_slice-2.result.now ≡ negated_buckets (curvature_parts c.args.values.now) = c.as_slice-2.ensures.value ∙ c.in_ok-negated.ensures ∙ ap negated_buckets made in
    let book = marginable p its.factors its.book in
    let done = curvatures_fit p c.facts.ensures.params (negated_factors its.factors) book (c.factors_are_netted.ensures.sizes book.held) c.args.product c.args.class (negated_buckets parts)
    (parts-negated p c.args.product c.args.class its.factors parts (class_curvatures p c.args.product c.args.class its.factors c.args.values.now its.are)) in
    subst (λ b. AreParts p b c.as_slice-2.result.now) (sym c.of.ensures) (subst (AreParts p (buckets_of c.args.class)) (sym again) done.are)

pub returns-clause-value : goal.returns-clause-value
returns-clause-value c = λ fs book are.
    let p = c.args.params.now in
    let parts = curvature_parts c.args.values.now in
    let made : c.as_slice.result.now ≡ curvature_parts c.args.values.now = c.as_slice.ensures.value ∙ c.in_ok-parts.ensures in
    let again : c.as_slice-2.result.now ≡ negated_buckets (curvature_parts c.args.values.now) = c.as_slice-2.ensures.value ∙ c.in_ok-negated.ensures ∙ ap negated_buckets made in
    let turned = marginable p fs book in
    let done = curvatures_fit p c.facts.ensures.params (negated_factors fs) turned (c.factors_are_netted.ensures.sizes turned.held) c.args.product c.args.class (negated_buckets parts)
    (parts-negated p c.args.product c.args.class fs parts (class_curvatures p c.args.product c.args.class fs c.args.values.now are)) in
    IfOk-weaker c.combine.result (λ m. m.0 ≡ curvature_across p c.of.result c.as_slice-2.result.now) (λ m. m.0 ≡ class_curvature_of p (nets_in c.args.product (negated_factors fs)) c.args.class)
    (λ m e. e ∙ ap (λ b. curvature_across p b c.as_slice-2.result.now) c.of.ensures ∙ ap (curvature_across p (buckets_of c.args.class)) again ∙ done.margin) c.combine.ensures.value
