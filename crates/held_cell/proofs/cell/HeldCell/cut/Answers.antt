use Rattle.std.proofs.Common.{◌<◌, sym, ap, ap₂, ◌∙◌, arith}
use Rattle.held_cell.specs.Seats.{seat_state, left_seat, right_seat}
use Rattle.held_cell.proofs.Splitting.{splits}
use Rattle.held_cell.proofs.Cutting.{left_is, right_is}
use Rattle.held_cell.proofs.cell.HeldCell.cut.Goals as goal

pub split_seat-others-requires : goal.split_seat-others-requires
split_seat-others-requires g c =
    let key = c.self.inside.table.shared.key in
    let v = c.seat.inside.pass.me.0 in
    let left = g.C.Cut.left in
    let some_left : 0 < left = omega (arith, c.requires.cut, c.requires.some) in
    let some_right : left < v.count = omega (arith, c.requires.cut, c.requires.some, ap (λ x. x.count) c.seat.view_is) in (
      ap (λ x. x.table) c.seat.view_is ∙ c.requires.seat.0 ∙ sym (ap (λ x. x.table) c.self.view_is),
      omega (arith, c.self.invariant.0),
      splits g.M.Machine.base g.M.Machine.journal g.M.Machine.is_legal (g.M.Machine.base key.machine.value) key.callers c.seat.inside.pass.id v left some_left some_right,
    )

pub returns-clause-left : goal.returns-clause-left
returns-clause-left g c =
    let v = c.seat.inside.pass.me.0 in
    let told = c.split_seat-others.ensures in
    let within : c.args.left < v.count = omega (arith, c.requires.some, ap (λ x. x.count) c.seat.view_is) in
    let ends = left_is c.seat.inside.pass.table_id v c.args.left within in
    ap₂ seat_state told.0 (ap (λ x. x.0) told.2) ∙ (rw (← c.requires.cut) ends) ∙ ap (left_seat c.args.left) c.seat.view_is

pub returns-clause-right : goal.returns-clause-right
returns-clause-right g c =
    let v = c.seat.inside.pass.me.0 in
    let told = c.split_seat-others.ensures in
    let within : c.args.left < v.count = omega (arith, c.requires.some, ap (λ x. x.count) c.seat.view_is) in
    let ends = right_is c.seat.inside.pass.table_id v c.args.left within in
    ap₂ seat_state told.3 (ap (λ x. x.0) told.4) ∙ (rw (← c.requires.cut) ends) ∙ ap (right_seat c.args.left) c.seat.view_is
