use Rattle.std.proofs.Common.{◌≡◌, length, take}
use Rattle.collateral_ledger.specs.SimmKinds.Batch.{rows_of}
use Rattle.set_core.proofs.event.count_rows.Given as goal

abbrev pub invariant-loop-trade : goal.invariant-loop-trade
invariant-loop-trade l = l.count ≡ length (rows_of (take l.trade-index l.trades))
