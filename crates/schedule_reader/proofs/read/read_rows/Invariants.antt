use Rattle.std.proofs.Common.{◌≡◌, ◌+◌, ◌≤◌, true, length}
use Rattle.std.specs.List.{list_all}
use Rattle.crif_records.specs.Reading.{records_left, IsReading}
use Rattle.schedule_im.specs.Parts.{is_ended}
use Rattle.schedule_reader.proofs.Runs.{IsUnderWay}
use Rattle.schedule_reader.proofs.read.read_rows.Given as goal

abbrev pub invariant-reading : goal.invariant-reading
invariant-reading l = record {
  reading : IsReading l.records;
  way : IsUnderWay l.columns (records_left l.fn.records) l.number l.rows.items (records_left l.records);
  few : length l.rows.items + 2 ≤ l.number;
  most : l.number ≤ 100002;
  ended : list_all is_ended l.rows.items ≡ true;
}

abbrev pub decreases-reading : goal.decreases-reading
decreases-reading l = length (records_left l.records)
