use Rattle.std.proofs.Common.{List, take}
use Rattle.simm_params.specs.SimmKinds.declared.key.FactorKey.{FactorKey}
use Rattle.simm_params.specs.SimmKinds.Batch.{rows_of}
use Rattle.factor_book.specs.declared.holding.Holding.{Holding}
use Rattle.factor_book.specs.Factors.{IsWithout}
use Rattle.book_range.specs.Firsts.{IsFirst, IsNewAt}
use Rattle.book_range.proofs.after.crowded_new.Given as goal

abbrev pub invariant-loop-trade : goal.invariant-loop-trade
invariant-loop-trade l = (left : List (FactorKey × Holding)) → IsWithout l.factors l.leaving left → IsFirst left (IsNewAt l.leaving (rows_of (take l.trade-index l.came))) l.first
