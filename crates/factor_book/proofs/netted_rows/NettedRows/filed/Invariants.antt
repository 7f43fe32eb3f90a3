use Rattle.std.proofs.Common.{◌≡◌, ◌++◌, List}
use denote.Bor.{Bor}
use Rattle.simm_rules.specs.SimmKinds.declared.key.FactorKey.{FactorKey}
use Rattle.factor_book.specs.declared.holding.Holding.{Holding}
use Rattle.factor_book.specs.Netting.{lent_factors}
use Rattle.factor_book.proofs.Nets.{IsFront}
use Rattle.factor_book.proofs.netted_rows.NettedRows.filed.Given as goal

abbrev pub invariant-loop-key : goal.invariant-loop-key
invariant-loop-key l = (done : List (Bor FactorKey × Holding)) × (done ++ l.key-iterator ≡ l.initial.key-iterator) × IsFront l.filed.entries (lent_factors done)
