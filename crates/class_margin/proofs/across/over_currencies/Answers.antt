use Rattle.std.proofs.Common.{◌≡◌, ◌∙◌, ◌^◌, ◌*◌, sym, ap, subst, pos, ◌≤ℤ◌, unsigned_abs, arith}
use Rattle.std.specs.Prelude.{sum_by}
use Rattle.std.proofs.lemmas.Int.{ints}
use Rattle.std.proofs.lemmas.Result.{IfOk-weaker}
use Rattle.class_margin.specs.Parts.{currency_parts}
use Rattle.class_margin.specs.rates_delta.Parts.{AreParts, margin_over}
use Rattle.class_margin.proofs.across.over_currencies.Goals as goal

pub combine-requires : goal.combine-requires
combine-requires c = subst AreParts (sym (c.as_slice.ensures.value ∙ c.in_ok-own.ensures)) c.requires

pub returns-clause-value : goal.returns-clause-value
returns-clause-value c =
    let p = c.args.params.now in
    let made : c.as_slice.result.now ≡ currency_parts c.args.parts.now = c.as_slice.ensures.value ∙ c.in_ok-own.ensures in
    IfOk-weaker c.combine.result (λ m. m.0 ≡ margin_over p c.as_slice.result.now) (λ m. m.0 ≡ margin_over p (currency_parts c.args.parts.now)) (λ m e. e ∙ ap (margin_over p) made) c.combine.ensures.value

pub returns-clause-size : goal.returns-clause-size
returns-clause-size c =
    let own = c.as_slice.result.now in
    let are : AreParts own = subst AreParts (sym (c.as_slice.ensures.value ∙ c.in_ok-own.ensures)) c.requires in
    IfOk-weaker c.combine.result (λ m. m.0 ≤ℤ pos (sum_by (λ b. unsigned_abs (b.1).k) own)) (λ m. m.0 ≤ℤ pos (84 * 10 ^ 14)) (λ m e. omega (arith, ints, e, are.small)) c.combine.ensures.size
