use Rattle.std.proofs.Common.{◌≡◌, take, ◌++◌}
use Rattle.std.specs.List.{flat_map}
use Rattle.simm_kinds.specs.Batch.{rows_of, multiplied}
use Rattle.simm_kinds.proofs.batch_faults.multiplied.Given as goal

abbrev pub invariant-loop-row : goal.invariant-loop-row
invariant-loop-row l = l.products.items ≡ flat_map multiplied (rows_of (take l.trade-index l.trades)) ++ flat_map multiplied (take l.row-index l.row-items)

abbrev pub invariant-loop-trade : goal.invariant-loop-trade
invariant-loop-trade l = l.products.items ≡ flat_map multiplied (rows_of (take l.trade-index l.trades))
