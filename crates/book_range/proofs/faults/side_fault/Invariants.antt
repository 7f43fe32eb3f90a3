use Rattle.std.proofs.Common.{◌≡◌, None, map, take}
use Rattle.simm_params.specs.SimmRules.Sums.{first_some}
use Rattle.simm_params.specs.SimmRules.Simm.{products}
use Rattle.book_range.specs.Faults.{product_fault}
use Rattle.book_range.proofs.faults.side_fault.Given as goal

abbrev pub invariant-loop-product : goal.invariant-loop-product
invariant-loop-product l = first_some (map (product_fault l.sizes l.side) (take l.product-index products)) ≡ None
