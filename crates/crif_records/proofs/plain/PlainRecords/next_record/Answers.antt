use Rattle.std.proofs.Common.{◌∙◌, sym, refl}
use Rattle.crif_records.specs.Plain.{plain_fields}
use Rattle.crif_records.proofs.PlainAscii.{plain_begins}
use Rattle.crif_records.proofs.PlainReads.{record_begins, no_record, record_taken}
use Rattle.crif_records.proofs.plain.PlainRecords.next_record.Goals as goal

pub returns-then-is_empty-clause-record : goal.returns-then-is_empty-clause-record
returns-then-is_empty-clause-record c =
    no_record c.args.self.now.delimiter c.args.self.now.rest.now (rw (← c.without_leading_line_ends-self.ensures) (sym c.if-is_empty.ensures))

pub returns-then-is_empty-clause-plain : goal.returns-then-is_empty-clause-plain
returns-then-is_empty-clause-plain c = plain_begins c.args.self.now _ c.requires refl c.clear.ensures.items c.without_leading_line_ends-self.ensures

pub loop-init : goal.loop-init
loop-init c = record {
  plain = plain_begins c.args.self.now _ c.requires refl c.clear.ensures.items c.without_leading_line_ends-self.ensures;
  delimiter = refl;
  same =
      rw (c.clear.ensures.items, c.without_leading_line_ends-self.ensures)
      (record_begins c.args.self.now.delimiter c.args.self.now.rest.now c.requires.quoteless (rw (← c.without_leading_line_ends-self.ensures) (sym c.if-is_empty.ensures)));
}

pub returns-clause-record : goal.returns-clause-record
returns-clause-record c =
    let taken = c.in_ok-take_field.ensures in
    let last = rw c.if-branch.false at taken.field in
    rw (taken.delimiter, c.loop.invariant.delimiter)
    (record_taken c.args.self.now.delimiter c.args.self.now.rest.now (plain_fields c.take_field.new.self) last.0 c.take_field.new.self.rest.now (c.loop.invariant.same ∙ last.1))
