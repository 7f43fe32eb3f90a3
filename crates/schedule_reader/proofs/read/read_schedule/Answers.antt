use Rattle.std.proofs.Common.{◌≡◌, ◌∷◌, [], true, false, sym, ap, ◌∙◌}
use Rattle.std.proofs.lemmas.Result.{err_from_is_err_and}
use Rattle.crif_records.specs.Reading.{newest, records_left}
use Rattle.crif_records.specs.Records.{records_of}
use Rattle.schedule_reader.specs.Grammar.{schedule_of, schedule_of_records}
use Rattle.schedule_reader.proofs.Runs.{fails_same}
use Rattle.schedule_reader.proofs.read.read_schedule.Goals as goal

pub returns-then-not-branch-clause-value : goal.returns-then-not-branch-clause-value
unfolding schedule_of
returns-then-not-branch-clause-value c =
    let gone : c.in_ok-next_record.field-0 ≡ false = c.if-not-branch.true in
    let all : records_of c.args.bytes.now ≡ [] = sym c.in_ok-records.ensures.records ∙ rw gone at c.in_ok-next_record.ensures.record in
    ap schedule_of_records all

pub returns-in_err-columns-clause-value : goal.returns-in_err-columns-clause-value
unfolding schedule_of
returns-in_err-columns-clause-value c =
    let found : c.in_ok-next_record.field-0 ≡ true = c.if-not-branch.false in
    let all : records_of c.args.bytes.now ≡ newest c.next_record.new.self ∷ records_left c.next_record.new.self = sym c.in_ok-records.ensures.records ∙ rw found at c.in_ok-next_record.ensures.record in
    let p = err_from_is_err_and c.from_residual-in_err-columns.result c.from_residual-in_err-columns.ensures.1 in
    rw (p.1, p.2, all, sym c.in_err-columns.ensures) (fails_same _ _)

pub returns-clause-value : goal.returns-clause-value
unfolding schedule_of
returns-clause-value c =
    let found : c.in_ok-next_record.field-0 ≡ true = c.if-not-branch.false in
    let all : records_of c.args.bytes.now ≡ newest c.next_record.new.self ∷ records_left c.next_record.new.self = sym c.in_ok-records.ensures.records ∙ rw found at c.in_ok-next_record.ensures.record in
    rw (all, sym c.in_ok-columns.ensures) c.read_rows.ensures.value
