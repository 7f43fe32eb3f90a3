use Rattle.std.proofs.Common.{◌≡◌, drop}
use Rattle.std.specs.List.{list_any}
use Rattle.measured_bucket.specs.SimmRules.Simm.{classes}
use Rattle.explain_text.specs.Classes.{has_class, has_product}
use Rattle.explain_text.proofs.class_lines.has_product.Given as goal

-- one of those that are left has a factor where one of all has
abbrev pub invariant-loop-class : goal.invariant-loop-class
invariant-loop-class l = list_any (has_class l.factors l.product) (drop l.class-index classes) ≡ has_product l.factors l.product
