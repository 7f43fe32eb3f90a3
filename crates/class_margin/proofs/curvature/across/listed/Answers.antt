use Rattle.std.proofs.Common.{◌≡◌, ◌∙◌, ◌^◌, ◌+◌, ◌*◌, sym, ap, subst, pos, ◌≤ℤ◌, arith}
use Rattle.std.proofs.lemmas.Int.{ints}
use Rattle.std.proofs.lemmas.Result.{IfOk-weaker}
use Rattle.class_margin.specs.Parts.{listed_parts}
use Rattle.class_margin.specs.curvature.Combine.{gross_size, margins_size, over_listed, AreListedParts}
use Rattle.class_margin.proofs.curvature.across.listed.Goals as goal

pub over_numbered-requires : goal.over_numbered-requires
over_numbered-requires c = subst (AreListedParts c.args.params.now c.args.class) (sym (c.as_slice.ensures.value ∙ c.in_ok-own.ensures)) c.requires

pub returns-clause-value : goal.returns-clause-value
returns-clause-value c =
    let p = c.args.params.now in
    let made : c.as_slice.result.now ≡ listed_parts c.args.parts.now = c.as_slice.ensures.value ∙ c.in_ok-own.ensures in
    IfOk-weaker c.over_numbered.result (λ m. m.0 ≡ over_listed p c.args.class c.as_slice.result.now) (λ m. m.0 ≡ over_listed p c.args.class (listed_parts c.args.parts.now)) (λ m e. e ∙ ap (λ ps. over_listed p c.args.class ps) made) c.over_numbered.ensures.value

pub returns-clause-size : goal.returns-clause-size
returns-clause-size c =
    let own = c.as_slice.result.now in
    let are : AreListedParts c.args.params.now c.args.class own = subst (AreListedParts c.args.params.now c.args.class) (sym (c.as_slice.ensures.value ∙ c.in_ok-own.ensures)) c.requires in
    let sized = are.sized in
    IfOk-weaker c.over_numbered.result (λ m. m.0 ≤ℤ pos (25 * (gross_size own + 10 * margins_size own))) (λ m. m.0 ≤ℤ pos (14 * 10 ^ 14)) (λ m e. omega (arith, ints, e, sized.small)) c.over_numbered.ensures.size
