use Rattle.std.proofs.Common.{◌∙◌, ◌≡◌, ◌≢◌, ◌∷◌, [], length, sym, ap, arith, vec_len}
use Rattle.std.proofs.lemmas.Bool.{eqb-false, eqb-true}
use Rattle.std.proofs.lemmas.Result.{err_from_is_err_and}
use Rattle.crif_reader.specs.declared.fault.CrifFault.TheVariants.{Row}
use Rattle.crif_reader.specs.Growth.{grown}
use Rattle.crif_records.specs.Reading.{newest, records_left}
use Rattle.crif_reader.specs.Row.{row_of}
use Rattle.crif_records.proofs.Binds.{mapped_ok}
use Rattle.crif_reader.proofs.GoodRows.{good_row}
use Rattle.crif_reader.proofs.Runs.{way_starts, way_passes, way_takes, way_fails, way_fails_late, way_too_long, way_ends, way_ends_empty}
use Rattle.crif_reader.proofs.read.read_rows.Goals as goal
use Rattle.crif_reader.proofs.read.read_rows.Goals.{in-Some+in_ok-take_row-in-Some, in-None}

pub loop-params-init : goal.loop-params-init
loop-params-init c =
    record {
      reading = c.requires;
      index = c.new-gathering.ensures.index;
      way = rw c.new-gathering.ensures.trades (way_starts c.args.columns.now (records_left c.args.records.now) c.new-params.result c.new-params.ensures);
      few = omega arith;
    }

pub returns-then-number-eq-TOO_MANY : goal.returns-then-number-eq-TOO_MANY
returns-then-number-eq-TOO_MANY c =
    let left : records_left c.loop-params.records ≡ newest c.next_record.new.self ∷ records_left c.next_record.new.self = rw c.if-branch.true at c.in_ok-next_record.ensures.record in
    way_too_long _ _ c.loop-params.number c.loop-params.passed_over c.loop-params.params (grown c.loop-params.gathering) _ _ (omega arith) (rw left at c.loop-params.invariant.way)

pub returns-in-Err : goal.returns-in-Err
returns-in-Err c =
    let left : records_left c.loop-params.records ≡ newest c.next_record.new.self ∷ records_left c.next_record.new.self = rw c.if-branch.true at c.in_ok-next_record.ensures.record in
    let few : c.loop-params.number ≢ 100002 = omega arith in
    way_fails _ _ c.loop-params.number c.loop-params.passed_over c.loop-params.params (grown c.loop-params.gathering) _ _ c.in-Err.fault few c.in-Err.ensures (rw left at c.loop-params.invariant.way)

pub take_row-requires-clause-name : goal.take_row-requires-clause-name
take_row-requires-clause-name c =
    let fields = newest c.next_record.new.self in
    let read = mapped_ok (λ d. Row c.loop-params.number d) (row_of c.args.columns.now fields) _ (rw c.in-Some.is at c.in-Ok.ensures) in
    (good_row c.args.columns.now fields (record { trade = c.in-Some.entry.trade.now; row = c.in-Some.entry.row }) read).name

pub loop-params-preserved : goal.loop-params-preserved
loop-params-preserved c =
    let left : records_left c.loop-params.records ≡ newest c.next_record.new.self ∷ records_left c.next_record.new.self = rw c.if-branch.true at c.in_ok-next_record.ensures.record in
    let way = rw left at c.loop-params.invariant.way in
    let few : c.loop-params.number ≢ 100002 = omega arith in
    let reading = c.in_ok-next_record.ensures.reading c.if-branch.true in
    elim c.match-taken.branch [
      | in-Some+in_ok-take_row-in-Some w ↦
          record {
            reading = reading;
            index = rw w.gathering-is w.in_ok-take_row-in-Some.ensures.index;
            way = rw (w.gathering-is, w.passed_over-is, w.params-is, w.in_ok-take_row-in-Some.ensures.trades) (
                way_takes _ _ c.loop-params.number c.loop-params.passed_over c.loop-params.params w.take_row.new.params (grown c.loop-params.gathering) _ _ (record { trade = w.in-Some.entry.trade.now; row = w.in-Some.entry.row }) few
                (rw w.in-Some.is at c.in-Ok.ensures) w.in_ok-take_row-in-Some.ensures.given w.in_ok-take_row-in-Some.ensures.noted way
                );
            few = omega arith;
          }
      | in-None w ↦ record {
        reading = reading;
        index = rw w.gathering-is c.loop-params.invariant.index;
        way = rw (w.gathering-is, w.passed_over-is, w.params-is) (way_passes _ _ c.loop-params.number c.loop-params.passed_over c.loop-params.params (grown c.loop-params.gathering) _ _ few (rw w.in-None.is at c.in-Ok.ensures) way);
        few = omega arith;
      }
    ]

pub returns-in_err-take_row-in-Some : goal.returns-in_err-take_row-in-Some
returns-in_err-take_row-in-Some c =
    let left : records_left c.loop-params.records ≡ newest c.next_record.new.self ∷ records_left c.next_record.new.self = rw c.if-branch.true at c.in_ok-next_record.ensures.record in
    let few : c.loop-params.number ≢ 100002 = omega arith in
    let p = err_from_is_err_and c.from_residual-in_err-take_row-in-Some.result c.from_residual-in_err-take_row-in-Some.ensures.1 in
    rw (p.1, p.2) (
    way_fails_late _ _ c.loop-params.number c.loop-params.passed_over c.loop-params.params (grown c.loop-params.gathering) _ _ (record { trade = c.in-Some.entry.trade.now; row = c.in-Some.entry.row }) _ few
    (rw c.in-Some.is at c.in-Ok.ensures) c.in_err-take_row-in-Some.ensures.given (rw left at c.loop-params.invariant.way)
    )

pub returns-then-is_empty : goal.returns-then-is_empty
returns-then-is_empty c =
    let left : records_left c.loop-params.records ≡ [] = rw c.if-branch.false at c.in_ok-next_record.ensures.record in
    let empty : vec_len c.in_ok-trades.trades ≡ 0 = eqb-true (vec_len c.in_ok-trades.trades) 0 (sym c.if-is_empty.ensures) in
    let none : length c.in_ok-trades.trades.items ≡ 0 = omega (arith, c.in_ok-trades.trades.ok.0) in
    way_ends_empty _ _ c.loop-params.number c.loop-params.passed_over c.loop-params.params (grown c.loop-params.gathering) (ap length (sym c.in_ok-trades.ensures) ∙ none) (rw left at c.loop-params.invariant.way)

pub returns : goal.returns
returns c =
    let left : records_left c.loop-params.records ≡ [] = rw c.if-branch.false at c.in_ok-next_record.ensures.record in
    let there : vec_len c.in_ok-trades.trades ≢ 0 = eqb-false (vec_len c.in_ok-trades.trades) 0 (sym c.if-is_empty.ensures) in
    let some : length c.in_ok-trades.trades.items ≢ 0 = omega (arith, c.in_ok-trades.trades.ok.0) in
    rw c.in_ok-trades.ensures (way_ends _ _ c.loop-params.number c.loop-params.passed_over c.loop-params.params (grown c.loop-params.gathering) (λ none. some (ap length c.in_ok-trades.ensures ∙ none)) (rw left at c.loop-params.invariant.way))
