use Rattle.std.proofs.Common.{◌≡◌, ◌+◌, ◌-◌, ◌<◌, arith, length, map, sym, ap, ◌∙◌, subst}
use Rattle.std.specs.List.{AllZip}
use Rattle.std.proofs.lemmas.List.{length_push}
use Rattle.feed_events.specs.SetCore.HeldCell.Seats.{IsSeatOf, right_seat}
use Rattle.feed_gate.specs.Share.{IsUnused, AreRows}
use Rattle.feed_runs.proofs.Zips.{zip_weaker}
use Rattle.feed_gate.proofs.Shares.{left_unused, right_unused, rows_more}
use Rattle.feed_gate.proofs.share.share_seats.Goals as goal

pub loop-caller-init : goal.loop-caller-init
loop-caller-init c =
    let all : c.args.callers ≡ c.args.callers - 0 = omega arith in
    record {
      count = ap length c.in_ok-rows.ensures.items;
      rest = subst (λ n. AllZip (IsUnused 0 n) c.args.cells.now c.args.seats.items) all c.requires.seats;
      rows = subst (λ rows. AreRows c.args.cells.now 0 (map (λ row. row.items) rows)) (sym c.in_ok-rows.ensures.items) tt;
    }

pub split_first-requires : goal.split_first-requires
split_first-requires c =
    zip_weaker (IsUnused c.loop-caller._caller (c.args.callers - c.loop-caller._caller)) (λ cell seat. IsSeatOf cell seat × (1 < seat.count))
    (λ cell seat unused. (unused.is.of, omega (arith, unused.is.count, c.loop-caller-test.true)))
    c.args.cells.now c.loop-caller.rest.items c.loop-caller.invariant.rest

pub loop-caller-preserved : goal.loop-caller-preserved
loop-caller-preserved c =
    let caller = c.loop-caller._caller in
    let left : (c.args.callers - caller) - 1 ≡ c.args.callers - (caller + 1) = omega arith in
    record {
      count = ap length c.in_ok-push.ensures.items ∙ length_push c.loop-caller.rows.items c.in_ok-first.field-0.first ∙ ap (λ n. n + 1) c.loop-caller.invariant.count;
      rest = subst (λ seats. AllZip (IsUnused (caller + 1) (c.args.callers - (caller + 1))) c.args.cells.now seats) (sym c.in_ok-first.ensures.others)
          (subst (λ n. AllZip (IsUnused (caller + 1) n) c.args.cells.now (map (right_seat 1) c.loop-caller.rest.items)) left
          (right_unused caller (c.args.callers - caller) c.args.cells.now c.loop-caller.rest.items c.loop-caller.invariant.rest));
      rows = subst (λ rows. AreRows c.args.cells.now 0 (map (λ row. row.items) rows)) (sym c.in_ok-push.ensures.items)
          (rows_more c.args.cells.now c.loop-caller.rows.items c.in_ok-first.field-0.first (λ row. row.items) caller c.loop-caller.invariant.count c.loop-caller.invariant.rows
          (subst (λ seats. AllZip (IsUnused caller 1) c.args.cells.now seats) (sym c.in_ok-first.ensures.first)
          (left_unused caller (c.args.callers - caller) c.args.cells.now c.loop-caller.rest.items c.loop-caller.invariant.rest)));
    }

pub returns-clause-count : goal.returns-clause-count
returns-clause-count c =
    omega (arith, ap length c.in_ok-push-2.ensures.items, length_push c.loop-caller.rows.items c.loop-caller.rest, c.loop-caller.invariant.count, c.loop-caller-test.false, c.loop-caller.auto._caller-end, c.requires.callers)

pub returns-clause-rows : goal.returns-clause-rows
returns-clause-rows c =
    let caller = c.loop-caller._caller in
    let one : c.args.callers - caller ≡ 1 = omega (arith, c.loop-caller-test.false, c.loop-caller.auto._caller-end, c.requires.callers) in
    subst (λ rows. AreRows c.args.cells.now 0 (map (λ row. row.items) rows)) (sym c.in_ok-push-2.ensures.items)
    (rows_more c.args.cells.now c.loop-caller.rows.items c.loop-caller.rest (λ row. row.items) caller c.loop-caller.invariant.count c.loop-caller.invariant.rows
    (subst (λ n. AllZip (IsUnused caller n) c.args.cells.now c.loop-caller.rest.items) one c.loop-caller.invariant.rest))
