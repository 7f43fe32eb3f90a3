use Rattle.std.proofs.Common.{◌≡◌, drop}
use Rattle.crif_records.specs.Records.{has_tab}
use Rattle.crif_records.proofs.records.has_tab.Given as goal

abbrev pub invariant-loop-byte : goal.invariant-loop-byte
invariant-loop-byte l = has_tab (drop l.byte-index l.bytes) ≡ has_tab l.fn.bytes
