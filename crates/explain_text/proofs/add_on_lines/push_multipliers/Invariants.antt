use Rattle.std.proofs.Common.{◌≡◌, ◌++◌, drop}
use Rattle.std.specs.List.{flat_map}
use Rattle.measured_bucket.specs.SimmRules.AddOns.{multiplier}
use Rattle.measured_bucket.specs.SimmRules.Parts.{product_part}
use Rattle.explain_text.specs.Lines.{multiplier_line}
use Rattle.explain_text.proofs.add_on_lines.push_multipliers.Given as goal

-- the text so far and the lines of what is left are those of all
abbrev pub invariant-loop-row : goal.invariant-loop-row
invariant-loop-row l =
    l.text ++ flat_map (multiplier_line (λ product. (product_part l.margin product).margin.0)) (flat_map multiplier (drop l.row-index l.parameters))
    ≡ l.fn.text ++ flat_map (multiplier_line (λ product. (product_part l.margin product).margin.0)) (flat_map multiplier l.parameters)
