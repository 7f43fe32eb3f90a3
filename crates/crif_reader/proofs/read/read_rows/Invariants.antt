use Rattle.std.proofs.Common.{◌≤◌, length}
use Rattle.crif_records.specs.Reading.{records_left, IsReading}
use Rattle.crif_reader.specs.Growth.{grown, IsIndex}
use Rattle.crif_reader.proofs.Runs.{IsUnderWay}
use Rattle.crif_reader.proofs.read.read_rows.Given as goal

abbrev pub invariant-loop-params : goal.invariant-loop-params
invariant-loop-params l = record {
  reading : IsReading l.records;
  index : IsIndex l.gathering;
  way : IsUnderWay l.columns (records_left l.fn.records) l.number l.passed_over l.params (grown l.gathering) (records_left l.records);
  few : l.number ≤ 100002;
}

abbrev pub decreases-loop-params : goal.decreases-loop-params
decreases-loop-params l = length (records_left l.records)
