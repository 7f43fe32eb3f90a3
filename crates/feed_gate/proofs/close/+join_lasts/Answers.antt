use Rattle.std.proofs.Common.{◌≡◌, ◌+◌, arith, map, sym, ap, ◌∙◌, subst}
use Rattle.std.proofs.lemmas.List.{same_from_push}
use Rattle.feed_events.proofs.SetCore.HeldCell.Begins.{prefix_trans}
use Rattle.feed_gate.specs.Share.{IsFor, AreLasts, Gathers}
use Rattle.feed_gate.proofs.Closings.{JoinedOwn, joined_own, holds_last}
use Rattle.feed_gate.proofs.close.+join_lasts.Goals as goal
use Rattle.feed_gate.proofs.close.+join_lasts.Goals.{After-rows-3-1}

-- the seat that is joined next
next : (t : _) (c : After-rows-3-1 t) → IsFor c.args.seat.count 1 c.args.cell.now c.last_seat.result
next t c =
    let lasts = subst (AreLasts c.args.cell.now c.args.seat.count) (ap (map (λ row. row.items)) c.in-Some.ensures.cases.0) c.requires.lasts in
    subst (IsFor c.args.seat.count 1 c.args.cell.now)
    (same_from_push lasts.0.front c.last_seat.new.row.items lasts.0.last c.last_seat.result (sym lasts.0.there ∙ c.last_seat.ensures)).1 lasts.0.is

own : (t : _) (c : After-rows-3-1 t) → JoinedOwn c.args.seat c.last_seat.result c.join_lasts.result.seen
own t c =
    joined_own c.args.seat c.last_seat.result c.join-joined.result c.join_lasts.result.seen c.join-joined.ensures.joined c.requires.seat.1 (next t c).first (next t c).count c.join_lasts.ensures.own

pub returns-clause-own : goal.returns-clause-own
returns-clause-own t c = (own t c).left

pub returns-clause-gathers : goal.returns-clause-gathers
returns-clause-gathers t c =
    let many : c.join-joined.result.count ≡ c.args.seat.count + 1 = omega (arith, c.join-joined.ensures.joined.count, (next t c).count) in
    subst (λ rows. Gathers c.args.seat.count rows c.join_lasts.result.seen) (sym (ap (map (λ row. row.items)) c.in-Some.ensures.cases.0)) (
      holds_last c.args.seat.count c.in-Some.row.now.items c.last_seat.new.row.items c.last_seat.result c.join_lasts.result.seen c.last_seat.ensures
          (record {
            begins = prefix_trans c.last_seat.result.seen c.join-joined.result.seen c.join_lasts.result.seen c.join-joined.ensures.joined.right_begins c.join_lasts.ensures.begins;
            own = (own t c).right;
          }),
      subst (λ n. Gathers n (map (λ row. row.items) c.in-Some.others.now) c.join_lasts.result.seen) many c.join_lasts.ensures.gathers,
    )
