use Rattle.std.proofs.Common.{◌≡◌, ◌++◌, drop}
use Rattle.std.specs.List.{flat_map}
use Rattle.explain_text.specs.Factors.{explained_line}
use Rattle.explain_text.proofs.factor_lines.push_factors.Given as goal

-- the text so far and the lines of what is left are those of all
abbrev pub invariant-loop-factor : goal.invariant-loop-factor
invariant-loop-factor g l =
    let line = explained_line l.measure l.product (g.N.Named.name l.within) in
    l.text ++ flat_map line (drop l.factor-index l.factors) ≡ l.fn.text ++ flat_map line l.factors
