use Rattle.std.proofs.Common.{◌≡◌, ◌∙◌, sym, ap, subst}
use Rattle.std.proofs.lemmas.Result.{IfOk-weaker}
use Rattle.class_margin.specs.Across.{buckets_of}
use Rattle.class_margin.specs.Parts.{curvature_parts}
use Rattle.class_margin.specs.curvature.Combine.{curvature_across, AreParts}
use Rattle.class_margin.specs.names_delta.Values.{nets_in}
use Rattle.class_margin.specs.volatility.Curvature.{class_curvature_of}
use Rattle.class_margin.proofs.volatility.CurvatureClasses.{class_curvatures, curvatures_fit}
use Rattle.class_margin.proofs.margins.curvature_margin.Goals as goal

pub combine-requires : goal.combine-requires
combine-requires c =
    let p = c.args.params.now in
    let its = c.requires in
    let made : c.as_slice.result.now ≡ curvature_parts c.args.values.now = c.as_slice.ensures.value ∙ c.in_ok-parts.ensures in
    let done = curvatures_fit p c.facts.ensures.params its.factors its.book (c.factors_are_netted.ensures.sizes its.book.held) c.args.product c.args.class (curvature_parts c.args.values.now)
    (class_curvatures p c.args.product c.args.class its.factors c.args.values.now its.are) in
    subst (λ b. AreParts p b c.as_slice.result.now) (sym c.of.ensures) (subst (AreParts p (buckets_of c.args.class)) (sym made) done.are)

pub returns-clause-value : goal.returns-clause-value
returns-clause-value c = λ fs book are.
    let p = c.args.params.now in
    let made : c.as_slice.result.now ≡ curvature_parts c.args.values.now = c.as_slice.ensures.value ∙ c.in_ok-parts.ensures in
    let done = curvatures_fit p c.facts.ensures.params fs book (c.factors_are_netted.ensures.sizes book.held) c.args.product c.args.class (curvature_parts c.args.values.now)
    (class_curvatures p c.args.product c.args.class fs c.args.values.now are) in
    IfOk-weaker c.combine.result (λ m. m.0 ≡ curvature_across p c.of.result c.as_slice.result.now) (λ m. m.0 ≡ class_curvature_of p (nets_in c.args.product fs) c.args.class)
    (λ m e. e ∙ ap (λ b. curvature_across p b c.as_slice.result.now) c.of.ensures ∙ ap (curvature_across p (buckets_of c.args.class)) made ∙ done.margin) c.combine.ensures.value
