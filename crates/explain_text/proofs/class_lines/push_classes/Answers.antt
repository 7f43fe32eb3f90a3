use Rattle.std.proofs.Common.{◌∙◌, arith}
use Rattle.measured_bucket.specs.SimmKinds.declared.kinds.RiskClass.TheVariants as class
use Rattle.measured_bucket.specs.SimmRules.Simm.{classes}
use Rattle.breakdown_text.proofs.Pieces.{piece_step}
use Rattle.explain_text.proofs.Products.{lines_of_class}
use Rattle.explain_text.proofs.class_lines.push_classes.Goals as goal

pub loop-class-preserved : goal.loop-class-preserved
loop-class-preserved c =
    piece_step (lines_of_class c.args.params.now c.args.figures.now c.args.product) classes c.loop-class.class-index class.IR c.loop-class.text c.push_class.new.text (omega arith)
    c.in_ok-push_class.ensures
    ∙ c.loop-class.invariant
