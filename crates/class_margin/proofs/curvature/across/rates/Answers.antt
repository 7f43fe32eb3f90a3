use Rattle.std.proofs.Common.{◌≡◌, ◌∙◌, ◌^◌, ◌+◌, ◌*◌, sym, ap, subst, pos, ◌≤ℤ◌, arith}
use Rattle.std.proofs.lemmas.Int.{ints}
use Rattle.std.proofs.lemmas.Result.{IfOk-weaker}
use Rattle.class_margin.specs.Parts.{currency_parts}
use Rattle.class_margin.specs.curvature.Combine.{gross_size, margins_size, over_currencies, over_ratio, AreCurrencyParts}
use Rattle.class_margin.proofs.curvature.across.rates.Goals as goal

pub over_currencies-requires : goal.over_currencies-requires
over_currencies-requires c = subst AreCurrencyParts (sym (c.as_slice.ensures.value ∙ c.in_ok-own.ensures)) c.requires

pub returns-clause-value : goal.returns-clause-value
returns-clause-value c =
    let p = c.args.params.now in
    let made : c.as_slice.result.now ≡ currency_parts c.args.parts.now = c.as_slice.ensures.value ∙ c.in_ok-own.ensures in
    IfOk-weaker c.over_currencies.result (λ m. m.0 ≡ over_ratio (over_currencies p c.as_slice.result.now) p.ir.hvr) (λ m. m.0 ≡ over_ratio (over_currencies p (currency_parts c.args.parts.now)) p.ir.hvr) (λ m e. e ∙ ap (λ ps. over_ratio (over_currencies p ps) p.ir.hvr) made) c.over_currencies.ensures.value

pub returns-clause-size : goal.returns-clause-size
returns-clause-size c =
    let own = c.as_slice.result.now in
    let are : AreCurrencyParts own = subst AreCurrencyParts (sym (c.as_slice.ensures.value ∙ c.in_ok-own.ensures)) c.requires in
    let sized = are.sized in
    IfOk-weaker c.over_currencies.result (λ m. m.0 ≤ℤ pos (25 * (gross_size own + 10 * margins_size own))) (λ m. m.0 ≤ℤ pos (14 * 10 ^ 14)) (λ m e. omega (arith, ints, e, sized.small)) c.over_currencies.ensures.size
