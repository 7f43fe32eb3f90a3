use Rattle.std.proofs.Common.{◌+◌, ◌∙◌, sym, drop, get_or, arith}
use Rattle.std.proofs.lemmas.List.{drop_more}
use Rattle.measured_bucket.specs.SimmKinds.declared.kinds.RiskClass.TheVariants as class
use Rattle.measured_bucket.specs.SimmRules.Simm.{classes}
use Rattle.explain_text.specs.Classes.{has_class, has_product}
use Rattle.explain_text.proofs.Pieces.{any_next}
use Rattle.explain_text.proofs.class_lines.has_product.Goals as goal

pub loop-class-preserved : goal.loop-class-preserved
loop-class-preserved c =
    let fs = c.args.factors.now in
    let i = c.loop-class.class-index in
    any_next (has_class fs c.args.product) (drop i classes) (drop (i + 1) classes) (get_or classes i class.IR) (has_product fs c.args.product)
    (drop_more classes i class.IR (omega arith)) c.loop-class.invariant
    (sym c.has_class.ensures ∙ c.if-has_class.false)
