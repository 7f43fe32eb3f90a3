use Rattle.std.proofs.Common.{◌≡◌, [], length}
use Rattle.csv.specs.Machine.{next_record}
use Rattle.csv.specs.declared.parser.State.TheVariants as st
use Rattle.crif_records.specs.Plain.{read_further, IsPlain}
use Rattle.crif_records.specs.Records.{csv_by}
use Rattle.crif_records.proofs.plain.PlainRecords.next_record.Given as goal

abbrev pub invariant-loop : goal.invariant-loop
invariant-loop l = record {
  plain : IsPlain l.self;
  delimiter : l.self.delimiter ≡ l.fn.self.delimiter;
  same : next_record (csv_by l.fn.self.delimiter) st.StartRecord [] [] l.fn.self.rest.now ≡ read_further l.self;
}

abbrev pub decreases-loop : goal.decreases-loop
decreases-loop l = length l.self.rest.now
