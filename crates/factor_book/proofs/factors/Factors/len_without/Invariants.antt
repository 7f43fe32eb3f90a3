use Rattle.std.proofs.Common.{◌≡◌, ◌+◌, length}
use Rattle.std.specs.Prelude.{count_by}
use Rattle.std.specs.List.{flat_map}
use Rattle.factor_book.specs.Holdings.{goes}
use Rattle.factor_book.proofs.factors.Factors.len_without.Given as goal

abbrev pub invariant-loop-lent : goal.invariant-loop-lent
invariant-loop-lent l = l.keys + count_by (goes l.self) l.leaving ≡ length l.self + count_by (goes l.self) (flat_map (λ lent. lent.factors) l.lent-iterator)
