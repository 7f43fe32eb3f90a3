use Rattle.std.proofs.Common.{◌≡◌, None, map, take}
use Rattle.simm_params.specs.SimmRules.Sums.{first_some}
use Rattle.simm_params.specs.SimmRules.Simm.{classes}
use Rattle.book_range.specs.Faults.{size_fault}
use Rattle.book_range.proofs.faults.product_fault.Given as goal

abbrev pub invariant-loop-class : goal.invariant-loop-class
invariant-loop-class l = first_some (map (λ class. size_fault l.sizes l.product class l.side) (take l.class-index classes)) ≡ None
