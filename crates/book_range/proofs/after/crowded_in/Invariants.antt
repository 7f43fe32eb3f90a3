use Rattle.std.proofs.Common.{List, take}
use Rattle.simm_params.specs.SimmKinds.declared.key.FactorKey.{FactorKey}
use Rattle.factor_book.specs.declared.holding.Holding.{Holding}
use Rattle.factor_book.specs.Factors.{IsWithout}
use Rattle.book_range.specs.Firsts.{IsFirst, IsNewAt}
use Rattle.book_range.proofs.after.crowded_in.Given as goal

abbrev pub invariant-loop-row : goal.invariant-loop-row
invariant-loop-row l = (left : List (FactorKey × Holding)) → IsWithout l.factors l.leaving left → IsFirst left (IsNewAt l.leaving (take l.row-index l.rows)) l.first
