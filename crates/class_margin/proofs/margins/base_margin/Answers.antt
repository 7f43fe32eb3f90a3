use Rattle.std.proofs.Common.{◌≡◌, ◌∙◌, ◌^◌, sym, ap, subst, pos, ◌≤ℤ◌, FitsSigned, rules}
use Rattle.std.specs.Int.{w128}
use Rattle.class_rates.proofs.MhUnits.Integers.{same128}
use Rattle.class_margin.specs.Parts.{base_values, first_k}
use Rattle.class_margin.proofs.delta.Base.{base_fits}
use Rattle.class_margin.proofs.margins.base_margin.Goals as goal

pub returns-clause-value : goal.returns-clause-value
returns-clause-value c = λ fs book are.
    let p = c.args.params.now in
    let fits : FitsSigned w128 c.first_margin.result = search rules in
    let made : c.as_slice.result.now ≡ base_values c.args.values.now = c.as_slice.ensures.value ∙ c.in_ok-bases.ensures in
    let done = base_fits p c.facts.ensures.params fs book (c.factors_are_netted.ensures.sizes book.held) c.args.product c.args.values.now are in
    same128 c.first_margin.result fits ∙ c.first_margin.ensures ∙ ap first_k made ∙ done.value

pub returns-clause-low : goal.returns-clause-low
returns-clause-low c =
    let p = c.args.params.now in
    let its = c.requires in
    let fits : FitsSigned w128 c.first_margin.result = search rules in
    let made : c.as_slice.result.now ≡ base_values c.args.values.now = c.as_slice.ensures.value ∙ c.in_ok-bases.ensures in
    let done = base_fits p c.facts.ensures.params its.factors its.book (c.factors_are_netted.ensures.sizes its.book.held) c.args.product c.args.values.now its.are in
    subst (λ z. pos 0 ≤ℤ z) (sym (same128 c.first_margin.result fits ∙ c.first_margin.ensures ∙ ap first_k made)) done.low

pub returns-clause-size : goal.returns-clause-size
returns-clause-size c =
    let p = c.args.params.now in
    let its = c.requires in
    let fits : FitsSigned w128 c.first_margin.result = search rules in
    let made : c.as_slice.result.now ≡ base_values c.args.values.now = c.as_slice.ensures.value ∙ c.in_ok-bases.ensures in
    let done = base_fits p c.facts.ensures.params its.factors its.book (c.factors_are_netted.ensures.sizes its.book.held) c.args.product c.args.values.now its.are in
    subst (λ z. z ≤ℤ pos (10 ^ 14)) (sym (same128 c.first_margin.result fits ∙ c.first_margin.ensures ∙ ap first_k made)) done.high
