use Rattle.std.proofs.Common.{◌≡◌, ◌∷◌, [], true, false, sym, ap, ◌∙◌}
use Rattle.std.proofs.lemmas.Result.{err_from_is_err_and}
use Rattle.crif_reader.specs.Grammar.{crif_of, crif_of_records}
use Rattle.crif_records.specs.Reading.{newest, records_left}
use Rattle.crif_records.specs.Records.{records_of}
use Rattle.crif_reader.proofs.Batches.{batch_of_rows}
use Rattle.crif_reader.proofs.Runs.{fails_same}
use Rattle.crif_reader.proofs.read.read_batch.Goals as goal

pub returns-then-not-branch : goal.returns-then-not-branch
unfolding crif_of
returns-then-not-branch c =
    let gone : c.in_ok-next_record.field-0 ≡ false = c.if-not-branch.true in
    let all : records_of c.args.bytes.now ≡ [] = sym c.in_ok-records.ensures.records ∙ rw gone at c.in_ok-next_record.ensures.record in
    ap crif_of_records all

pub returns-in_err-columns : goal.returns-in_err-columns
unfolding crif_of
returns-in_err-columns c =
    let found : c.in_ok-next_record.field-0 ≡ true = c.if-not-branch.false in
    let all : records_of c.args.bytes.now ≡ newest c.next_record.new.self ∷ records_left c.next_record.new.self = sym c.in_ok-records.ensures.records ∙ rw found at c.in_ok-next_record.ensures.record in
    let p = err_from_is_err_and c.from_residual-in_err-columns.result c.from_residual-in_err-columns.ensures.1 in
    rw (p.1, p.2, all, sym c.in_err-columns.ensures) (fails_same _ _)

pub returns-in_err-gathered : goal.returns-in_err-gathered
unfolding crif_of
returns-in_err-gathered c =
    let found : c.in_ok-next_record.field-0 ≡ true = c.if-not-branch.false in
    let all : records_of c.args.bytes.now ≡ newest c.next_record.new.self ∷ records_left c.next_record.new.self = sym c.in_ok-records.ensures.records ∙ rw found at c.in_ok-next_record.ensures.record in
    let p = err_from_is_err_and c.from_residual-in_err-gathered.result c.from_residual-in_err-gathered.ensures.1 in
    rw (p.1, p.2, all, sym c.in_ok-columns.ensures) c.in_err-gathered.ensures

pub from_trades-requires : goal.from_trades-requires
from_trades-requires c = rw c.from_vec.ensures (batch_of_rows _ _ _ c.in_ok-gathered.ensures)

pub returns : goal.returns
unfolding crif_of
returns c =
    let found : c.in_ok-next_record.field-0 ≡ true = c.if-not-branch.false in
    let all : records_of c.args.bytes.now ≡ newest c.next_record.new.self ∷ records_left c.next_record.new.self = sym c.in_ok-records.ensures.records ∙ rw found at c.in_ok-next_record.ensures.record in
    rw (all, sym c.in_ok-columns.ensures, c.in_ok-batch.ensures, c.from_vec.ensures) c.in_ok-gathered.ensures
