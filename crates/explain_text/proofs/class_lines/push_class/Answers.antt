use Rattle.std.proofs.Common.{rules, ◌∙◌, FitsSigned, ℤ, to_z, of_z}
use Rattle.std.specs.Int.{w128}
use Rattle.std.proofs.lemmas.Int.{to_z-of_z}
use Rattle.measured_bucket.specs.SimmRules.Parts.{class_part}
use Rattle.explain_text.proofs.OfClass.{class_is}
use Rattle.explain_text.proofs.class_lines.push_class.Goals as goal

pub measure_margins-requires-clause-whole : goal.measure_margins-requires-clause-whole
measure_margins-requires-clause-whole c = let figures = c.requires.1 in figures.fresh.whole c.args.product c.args.class

pub returns : goal.returns
returns c =
    let f = c.args.figures.now in
    let fits : FitsSigned w128 c.class-margin.result.0 = search rules in
    let shown : ℤ = to_z w128 (of_z w128 c.class-margin.result.0) in
    class_is c.args.params.now c.requires.0 f c.requires.1 c.args.product c.args.class c.in_ok-margins.margins c.in_ok-margins.ensures
    c.has_class.result shown c.args.text.now c.push_side.new.text c.push_side-2.new.text c.push_class_margin.new.text
    c.has_class.ensures c.if-not-has_class.false
    (to_z-of_z w128 c.class-margin.result.0 fits ∙ (λ k. (c.class-margin.ensures k).0) ∙ (λ k. (class_part (c.product.ensures k) c.args.class).0))
    c.in_ok-push_side.ensures c.in_ok-push_side-2.ensures c.in_ok-push_class_margin.ensures
