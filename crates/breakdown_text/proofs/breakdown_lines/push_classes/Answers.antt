use Rattle.std.proofs.Common.{◌∙◌, arith}
use Rattle.simm_kinds.specs.declared.kinds.RiskClass.TheVariants as class
use Rattle.simm_rules.specs.Simm.{classes}
use Rattle.breakdown_text.specs.Margins.{class_line}
use Rattle.breakdown_text.proofs.Pieces.{piece_step}
use Rattle.breakdown_text.proofs.breakdown_lines.push_classes.Goals as goal

pub loop-class-preserved : goal.loop-class-preserved
loop-class-preserved c =
    piece_step (class_line c.args.product c.args.part.now) classes c.loop-class.class-index class.IR c.loop-class.text c.push_class.new.text (omega arith) c.in_ok-push_class.ensures
    ∙ c.loop-class.invariant
