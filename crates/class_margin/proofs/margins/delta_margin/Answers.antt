use Rattle.std.proofs.Common.{◌≡◌, ◌∙◌, sym, ap, subst}
use Rattle.std.proofs.lemmas.Result.{IfOk-weaker}
use Rattle.class_margin.specs.Across.{buckets_of, margin_across, AreParts}
use Rattle.class_margin.specs.Parts.{delta_parts}
use Rattle.class_margin.specs.delta.Class.{class_delta_of}
use Rattle.class_margin.specs.names_delta.Values.{nets_in}
use Rattle.class_margin.proofs.delta.Classes.{deltas_fit}
use Rattle.class_margin.proofs.margins.delta_margin.Goals as goal

pub combine-requires : goal.combine-requires
combine-requires c =
    let p = c.args.params.now in
    let its = c.requires in
    let made : c.as_slice.result.now ≡ delta_parts c.args.values.now = c.as_slice.ensures.value ∙ c.in_ok-parts.ensures in
    let done = deltas_fit p c.facts.ensures.params c.rate_facts.ensures.weighed (λ x. (c.facts.ensures.weighed x).weight_low) its.factors its.book (c.factors_are_netted.ensures.sizes its.book.held) c.args.product c.args.class c.args.values.now its.are in
    subst (λ b. AreParts p b c.as_slice.result.now) (sym c.of.ensures) (subst (AreParts p (buckets_of c.args.class)) (sym made) done.are)

pub returns-clause-value : goal.returns-clause-value
returns-clause-value c = λ fs book are.
    let p = c.args.params.now in
    let made : c.as_slice.result.now ≡ delta_parts c.args.values.now = c.as_slice.ensures.value ∙ c.in_ok-parts.ensures in
    let done = deltas_fit p c.facts.ensures.params c.rate_facts.ensures.weighed (λ x. (c.facts.ensures.weighed x).weight_low) fs book (c.factors_are_netted.ensures.sizes book.held) c.args.product c.args.class c.args.values.now are in
    IfOk-weaker c.combine.result (λ m. m.0 ≡ margin_across p c.of.result c.as_slice.result.now) (λ m. m.0 ≡ class_delta_of p (nets_in c.args.product fs) c.args.class)
    (λ m e. e ∙ ap (λ b. margin_across p b c.as_slice.result.now) c.of.ensures ∙ ap (margin_across p (buckets_of c.args.class)) made ∙ done.margin) c.combine.ensures.value
