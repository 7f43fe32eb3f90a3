use Rattle.std.proofs.Common.{◌≡◌, ◌≤◌, length, take}
use Rattle.simm_kinds.specs.Batch.{rows_of}
use Rattle.simm_kinds.proofs.batch_faults.has_too_many_rows.Given as goal

abbrev pub invariant-loop-trade : goal.invariant-loop-trade
invariant-loop-trade l =
    record {
      few : l.count ≤ 100000;
      counted : l.count ≡ length (rows_of (take l.trade-index l.trades));
    }
