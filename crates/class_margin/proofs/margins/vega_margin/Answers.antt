use Rattle.std.proofs.Common.{◌≡◌, ◌∙◌, sym, ap, subst}
use Rattle.std.proofs.lemmas.Result.{IfOk-weaker}
use Rattle.class_margin.specs.Across.{buckets_of, margin_across, AreParts}
use Rattle.class_margin.specs.Parts.{vega_parts}
use Rattle.class_margin.specs.volatility.Vega.{class_vega_of}
use Rattle.class_margin.specs.names_delta.Values.{nets_in}
use Rattle.class_margin.proofs.volatility.Classes.{vegas_fit}
use Rattle.class_margin.proofs.margins.vega_margin.Goals as goal

pub combine-requires : goal.combine-requires
combine-requires c =
    let p = c.args.params.now in
    let its = c.requires in
    let made : c.as_slice.result.now ≡ vega_parts c.args.values.now = c.as_slice.ensures.value ∙ c.in_ok-parts.ensures in
    let done = vegas_fit p c.facts.ensures.params c.rate_facts.ensures.weighed its.factors its.book (c.factors_are_netted.ensures.sizes its.book.held) c.args.product c.args.class c.args.values.now its.are in
    subst (λ b. AreParts p b c.as_slice.result.now) (sym c.of.ensures) (subst (AreParts p (buckets_of c.args.class)) (sym made) done.are)

pub returns-clause-value : goal.returns-clause-value
returns-clause-value c = λ fs book are.
    let p = c.args.params.now in
    let made : c.as_slice.result.now ≡ vega_parts c.args.values.now = c.as_slice.ensures.value ∙ c.in_ok-parts.ensures in
    let done = vegas_fit p c.facts.ensures.params c.rate_facts.ensures.weighed fs book (c.factors_are_netted.ensures.sizes book.held) c.args.product c.args.class c.args.values.now are in
    IfOk-weaker c.combine.result (λ m. m.0 ≡ margin_across p c.of.result c.as_slice.result.now) (λ m. m.0 ≡ class_vega_of p (nets_in c.args.product fs) c.args.class)
    (λ m e. e ∙ ap (λ b. margin_across p b c.as_slice.result.now) c.of.ensures ∙ ap (margin_across p (buckets_of c.args.class)) made ∙ done.margin) c.combine.ensures.value
