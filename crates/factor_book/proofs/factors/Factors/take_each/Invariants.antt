use Rattle.std.proofs.Common.{◌≡◌, ◌++◌, List, drop}
use Rattle.simm_rules.specs.Net.{Sensitivity, sensitivities}
use Rattle.factor_book.specs.Factors.{factors_in}
use Rattle.factor_book.proofs.factors.Factors.take_each.Given as goal

abbrev pub invariant-loop-row : goal.invariant-loop-row
invariant-loop-row l = (rest : List Sensitivity) → l.fn.self ≡ factors_in (sensitivities l.rows ++ rest) → l.self ≡ factors_in (sensitivities (drop l.row-index l.rows) ++ rest)
