use Rattle.std.proofs.Common.{◌≡◌, ◌∙◌, ◌^◌, ◌*◌, sym, ap, subst, pos, ◌≤ℤ◌, unsigned_abs, arith}
use Rattle.std.specs.Prelude.{sum_by}
use Rattle.std.proofs.lemmas.Int.{ints}
use Rattle.std.proofs.lemmas.Result.{IfOk-weaker}
use Rattle.class_margin.specs.Parts.{listed_parts}
use Rattle.class_margin.specs.names_delta.Combine.{listed_in, named_margin, AreListed, AreSized}
use Rattle.class_margin.proofs.across.over_listed.Goals as goal

pub combine-requires-clause-listed : goal.combine-requires-clause-listed
combine-requires-clause-listed c = subst (AreListed (listed_in c.args.params.now c.args.class)) (sym (c.as_slice.ensures.value ∙ c.in_ok-own.ensures)) c.requires.listed

pub combine-requires-clause-sized : goal.combine-requires-clause-sized
combine-requires-clause-sized c = subst AreSized (sym (c.as_slice.ensures.value ∙ c.in_ok-own.ensures)) c.requires.sized

pub returns-clause-value : goal.returns-clause-value
returns-clause-value c =
    let p = c.args.params.now in
    let made : c.as_slice.result.now ≡ listed_parts c.args.parts.now = c.as_slice.ensures.value ∙ c.in_ok-own.ensures in
    IfOk-weaker c.combine.result (λ m. m.0 ≡ named_margin p c.args.class c.as_slice.result.now) (λ m. m.0 ≡ named_margin p c.args.class (listed_parts c.args.parts.now)) (λ m e. e ∙ ap (named_margin p c.args.class) made) c.combine.ensures.value

pub returns-clause-size : goal.returns-clause-size
returns-clause-size c =
    let own = c.as_slice.result.now in
    let sized : AreSized own = subst AreSized (sym (c.as_slice.ensures.value ∙ c.in_ok-own.ensures)) c.requires.sized in
    IfOk-weaker c.combine.result (λ m. m.0 ≤ℤ pos (sum_by (λ b. unsigned_abs (b.1).k) own)) (λ m. m.0 ≤ℤ pos (84 * 10 ^ 14)) (λ m e. omega (arith, ints, e, sized.in_range)) c.combine.ensures.size
