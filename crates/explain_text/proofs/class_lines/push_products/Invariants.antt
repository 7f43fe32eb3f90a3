use Rattle.std.proofs.Common.{◌≡◌, ◌++◌, drop}
use Rattle.std.specs.List.{flat_map}
use Rattle.measured_bucket.specs.SimmRules.Simm.{products}
use Rattle.explain_text.proofs.Products.{its_lines}
use Rattle.explain_text.proofs.class_lines.push_products.Given as goal

-- the text so far and the lines of what is left are those of all
abbrev pub invariant-loop-product : goal.invariant-loop-product
invariant-loop-product l = l.text ++ flat_map (its_lines l.params l.figures) (drop l.product-index products) ≡ l.fn.text ++ flat_map (its_lines l.params l.figures) products
