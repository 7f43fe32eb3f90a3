use Rattle.std.proofs.Common.{◌∷◌, take}
use Rattle.std.specs.List.{flat_map, AllByRecursion}
use Rattle.crif_writer.specs.Text.{header_fields, trade_records, records_text, HasWritten, HasTradeParts}
use Rattle.crif_writer.proofs.write.write_batch.Given as goal

abbrev pub invariant-loop-trade : goal.invariant-loop-trade
invariant-loop-trade l = record {
  text : HasWritten l.writer (records_text (header_fields ∷ flat_map trade_records (take l.trade-index l.batch)));
  parts : AllByRecursion HasTradeParts (take l.trade-index l.batch);
}
