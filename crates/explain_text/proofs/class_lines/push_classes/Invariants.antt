use Rattle.std.proofs.Common.{◌≡◌, ◌++◌, drop}
use Rattle.std.specs.List.{flat_map}
use Rattle.measured_bucket.specs.SimmRules.Simm.{classes}
use Rattle.explain_text.proofs.Products.{lines_of_class}
use Rattle.explain_text.proofs.class_lines.push_classes.Given as goal

-- the text so far and the lines of what is left are those of all
abbrev pub invariant-loop-class : goal.invariant-loop-class
invariant-loop-class l = l.text ++ flat_map (lines_of_class l.params l.figures l.product) (drop l.class-index classes) ≡ l.fn.text ++ flat_map (lines_of_class l.params l.figures l.product) classes
