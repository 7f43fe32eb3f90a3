use Rattle.std.proofs.Common.{◌≡◌, ◌++◌, drop}
use Rattle.std.specs.List.{flat_map}
use Rattle.simm_rules.specs.Simm.{classes}
use Rattle.breakdown_text.specs.Margins.{class_line}
use Rattle.breakdown_text.proofs.breakdown_lines.push_classes.Given as goal

-- the text so far and the lines of what is left are those of all
abbrev pub invariant-loop-class : goal.invariant-loop-class
invariant-loop-class l = l.text ++ flat_map (class_line l.product l.part) (drop l.class-index classes) ≡ l.fn.text ++ flat_map (class_line l.product l.part) classes
