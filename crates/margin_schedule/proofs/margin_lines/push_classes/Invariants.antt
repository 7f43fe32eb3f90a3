use Rattle.std.proofs.Common.{◌≡◌, ◌++◌, drop}
use Rattle.std.specs.List.{flat_map}
use Rattle.schedule_im.specs.Classes.{each_class}
use Rattle.margin_schedule.specs.MarginLines.{class_line}
use Rattle.margin_schedule.proofs.margin_lines.push_classes.Given as goal

-- the text so far and the lines of what is left are those of all
abbrev pub invariant-loop-class : goal.invariant-loop-class
invariant-loop-class l = l.text ++ flat_map (class_line l.classes) (drop l.class-index each_class) ≡ l.fn.text ++ flat_map (class_line l.classes) each_class
