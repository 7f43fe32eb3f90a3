use Rattle.std.proofs.Common.{◌≡◌, ◌+◌}
use Rattle.std.specs.Prelude.{count_by}
use Rattle.factor_book.specs.Holdings.{goes}
use Rattle.factor_book.proofs.factors.Factors.keys_left.Given as goal

abbrev pub invariant-loop-key : goal.invariant-loop-key
invariant-loop-key l = l.left + count_by (goes l.self) l.leaving.factors ≡ l.fn.keys + count_by (goes l.self) l.key-iterator
