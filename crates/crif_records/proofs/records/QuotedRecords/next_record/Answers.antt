use Rattle.std.proofs.Common.{inl, inr, ◌∙◌}
use Rattle.std.proofs.lemmas.Bool.{cases_Bool}
use Rattle.csv.specs.Records.{fields_of}
use Rattle.crif_records.proofs.RecordsLeft.{first_taken, none_taken}
use Rattle.crif_records.proofs.records.QuotedRecords.next_record.Goals as goal

pub returns-in-Ok-clause-record : goal.returns-in-Ok-clause-record
returns-in-Ok-clause-record c =
    let read = c.in-Ok.ensures.reads c.requires.trim c.requires.ready in
    elim (cases_Bool c.in-Ok.found) [
      | inl found ↦ rw found (first_taken c.args.self.now.reader c.read_byte_record.new.self (fields_of c.read_byte_record.new.row) c.requires.between c.requires.known (rw found at read)).records
      | inr gone ↦ rw gone (none_taken c.args.self.now.reader c.read_byte_record.new.self (fields_of c.read_byte_record.new.row) c.requires.known (rw gone at read))
    ]

pub returns-in-Ok-clause-reading : goal.returns-in-Ok-clause-reading
returns-in-Ok-clause-reading c = λ found.
    let read = c.in-Ok.ensures.reads c.requires.trim c.requires.ready in
    let rest = first_taken c.args.self.now.reader c.read_byte_record.new.self (fields_of c.read_byte_record.new.row) c.requires.between c.requires.known (rw found at read) in
    record {
      trim = read.3 ∙ c.requires.trim;
      ready = inl (c.in-Ok.ensures.ready c.requires.trim);
      flexible = c.in-Ok.ensures.flexible ∙ c.requires.flexible;
      between = rest.between;
      known = rest.known;
    }
