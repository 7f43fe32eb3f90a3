use Rattle.std.proofs.Common.{◌≡◌, ◌<◌, arith, [], ◌∷◌, ◌++◌, length, length-drop, map, take, drop, get_or, IfSome, refl, sym, ap, ◌∙◌, subst}
use Rattle.std.proofs.lemmas.List.{drop-drop, take_all, map_more}
use Rattle.std.proofs.lemmas.Option.{slice_get_read}
use Rattle.feed_events.specs.SetCore.HeldCell.Seats.{IsSeatOf, left_seat, right_seat}
use Rattle.feed_gate.specs.Seats.{Cell, Seat}
use Rattle.feed_runs.proofs.Zips.{zip_length, zip_at}
use Rattle.feed_gate.proofs.Shares.{first_behind}
use Rattle.feed_gate.proofs.share.split_first.Goals as goal
use Rattle.feed_gate.proofs.share.split_first.Goals.{After-unwrap}

pub unwrap-requires : goal.unwrap-requires
unwrap-requires c =
    c.pop_front.ensures.variant.1
    (omega (arith, c.loop-cell-test.true, zip_length (λ (x : Cell) (y : Seat). IsSeatOf x y × (1 < y.count)) c.args.cells.now c.args.seats.items c.requires, ap length c.loop-cell.invariant.waiting, length-drop c.loop-cell.cell-index c.args.seats.items))

-- the seat that is popped
stands : (c : After-unwrap) → c.unwrap.result ≡ get_or c.args.seats.items c.loop-cell.cell-index c.unwrap.result
stands c =
    first_behind c.args.seats.items c.loop-cell.waiting.items c.loop-cell.cell-index c.unwrap.result c.loop-cell.invariant.waiting
    (subst (λ o. IfSome o (λ x. x ≡ get_or c.loop-cell.waiting.items 0 x)) c.unwrap.ensures c.pop_front.ensures.lookup)

can_split : (c : After-unwrap) → IsSeatOf c.cell-item.result c.unwrap.result × (1 < c.unwrap.result.count)
can_split c =
    let same = zip_length (λ (x : Cell) (y : Seat). IsSeatOf x y × (1 < y.count)) c.args.cells.now c.args.seats.items c.requires in
    zip_at (λ (x : Cell) (y : Seat). IsSeatOf x y × (1 < y.count)) c.args.cells.now c.args.seats.items c.loop-cell.cell-index c.cell-item.result c.unwrap.result c.requires
    (slice_get_read c.args.cells.now (length c.args.cells.now) c.loop-cell.cell-index c.cell-item.result refl c.loop-cell-test.true c.cell-item.is)
    (slice_get_read c.args.seats.items (length c.args.seats.items) c.loop-cell.cell-index c.unwrap.result refl (omega (arith, same, c.loop-cell-test.true)) (stands c))

pub split-one-requires-clause-seat : goal.split-one-requires-clause-seat
split-one-requires-clause-seat c = (can_split c).0

pub split-one-requires-clause-some : goal.split-one-requires-clause-some
split-one-requires-clause-some c = (omega arith, (can_split c).1)

pub loop-cell-preserved : goal.loop-cell-preserved
loop-cell-preserved c =
    let seats = c.args.seats.items in
    let i = c.loop-cell.cell-index in
    let x = c.unwrap.result in
    let same = zip_length (λ (y : Cell) (z : Seat). IsSeatOf y z × (1 < z.count)) c.args.cells.now seats c.requires in
    let within : i < length seats = omega (arith, same, c.loop-cell-test.true) in
    let read : x ≡ get_or seats i x = first_behind seats c.loop-cell.waiting.items i x c.loop-cell.invariant.waiting
    (subst (λ o. IfSome o (λ y. y ≡ get_or c.loop-cell.waiting.items 0 y)) c.unwrap.ensures c.pop_front.ensures.lookup) in
    record {
      waiting = c.pop_front.ensures.rest ∙ ap (drop 1) c.loop-cell.invariant.waiting ∙ drop-drop 1 i seats;
      first = c.in_ok-push.ensures.items ∙ ap (λ ys. ys ++ c.split-one.result.0 ∷ []) c.loop-cell.invariant.first
          ∙ ap (λ s. map (left_seat 1) (take i seats) ++ s ∷ []) (c.split-one.ensures.left ∙ ap (left_seat 1) read) ∙ sym (map_more (left_seat 1) seats i x within);
      others = c.in_ok-push-2.ensures.items ∙ ap (λ ys. ys ++ c.split-one.result.1 ∷ []) c.loop-cell.invariant.others
          ∙ ap (λ s. map (right_seat 1) (take i seats) ++ s ∷ []) (c.split-one.ensures.right ∙ ap (right_seat 1) read) ∙ sym (map_more (right_seat 1) seats i x within);
    }

pub returns-clause-first : goal.returns-clause-first
returns-clause-first c =
    let same = zip_length (λ (x : Cell) (y : Seat). IsSeatOf x y × (1 < y.count)) c.args.cells.now c.args.seats.items c.requires in
    c.loop-cell.invariant.first ∙ ap (map (left_seat 1)) (take_all c.loop-cell.cell-index c.args.seats.items (omega (arith, same, c.loop-cell-test.false)))

pub returns-clause-others : goal.returns-clause-others
returns-clause-others c =
    let same = zip_length (λ (x : Cell) (y : Seat). IsSeatOf x y × (1 < y.count)) c.args.cells.now c.args.seats.items c.requires in
    c.loop-cell.invariant.others ∙ ap (map (right_seat 1)) (take_all c.loop-cell.cell-index c.args.seats.items (omega (arith, same, c.loop-cell-test.false)))
