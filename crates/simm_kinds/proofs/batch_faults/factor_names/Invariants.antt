use Rattle.std.proofs.Common.{◌≡◌, map, take, ◌++◌}
use Rattle.std.specs.List.{flat_map}
use Rattle.simm_kinds.specs.Batch.{rows_of, factor_names}
use Rattle.simm_kinds.proofs.batch_faults.factor_names.Given as goal

abbrev pub invariant-loop-row : goal.invariant-loop-row
invariant-loop-row l =
    map (λ n. n.now) l.names.items ≡ flat_map factor_names (rows_of (take l.trade-index l.trades)) ++ flat_map factor_names (take l.row-index l.row-items)

abbrev pub invariant-loop-trade : goal.invariant-loop-trade
invariant-loop-trade l = map (λ n. n.now) l.names.items ≡ flat_map factor_names (rows_of (take l.trade-index l.trades))
