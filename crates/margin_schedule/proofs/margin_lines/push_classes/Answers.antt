use Rattle.std.proofs.Common.{◌∙◌, arith}
use Rattle.schedule_im.specs.declared.class.ScheduleClass.TheVariants as class
use Rattle.schedule_im.specs.Classes.{each_class}
use Rattle.margin_schedule.specs.MarginLines.{class_line}
use Rattle.margin_schedule.proofs.MarginLemmas.{line_more}
use Rattle.margin_schedule.proofs.margin_lines.push_classes.Goals as goal

pub loop-class-preserved : goal.loop-class-preserved
loop-class-preserved c =
    line_more (class_line c.args.classes.now) each_class c.loop-class.class-index class.Rates c.loop-class.text c.push_class.new.text (omega arith) c.in_ok-push_class.ensures
    ∙ c.loop-class.invariant
