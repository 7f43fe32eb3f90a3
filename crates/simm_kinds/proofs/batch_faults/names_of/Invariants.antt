use Rattle.std.proofs.Common.{◌≡◌, map, take}
use Rattle.simm_kinds.proofs.batch_faults.names_of.Given as goal

abbrev pub invariant-loop-trade : goal.invariant-loop-trade
invariant-loop-trade l = map (λ n. n.now) l.names.items ≡ map (λ t. t.trade) (take l.trade-index l.trades)
