use Rattle.std.proofs.Common.{◌≡◌, ◌+◌, sym, ap, subst, subst₂, ◌∙◌, All, arith}
use Rattle.held_cell.specs.Views.{looked, joined}
use Rattle.held_cell.specs.Rule.{Extends}
use Rattle.held_cell.specs.Seats.{seat_state, IsJoined}
use Rattle.held_cell.proofs.Joining.{joins}
use Rattle.held_cell.proofs.Cutting.{joined_is}
use Rattle.held_cell.proofs.cell.HeldCell.join.Goals as goal

pub join_seat-requires : goal.join_seat-requires
join_seat-requires g c =
    let key = c.self.inside.table.shared.key in
    let v = c.left.inside.pass.me.0 in
    let w = c.right.inside.pass.me.0 in
    let beside : v.first + v.count ≡ w.first = omega (arith, c.requires.beside, ap (λ x. x.first) c.left.view_is, ap (λ x. x.count) c.left.view_is, ap (λ x. x.first) c.right.view_is) in
    let here = sym (ap (λ x. x.table) c.self.view_is) in (
      ap (λ x. x.table) c.left.view_is ∙ c.requires.seats.0.0 ∙ here,
      ap (λ x. x.table) c.right.view_is ∙ c.requires.seats.1.0 ∙ here,
      c.right.invariant.nothing_held,
      omega (arith, c.self.invariant.0),
      joins g.M.Machine.base g.M.Machine.journal g.M.Machine.is_legal (g.M.Machine.base key.machine.value) key.callers c.left.inside.pass.id v c.right.inside.pass.id w beside (omega (arith, c.left.invariant.count_is, c.left.invariant.some_callers)) c.left.invariant.idle c.right.invariant.idle,
    )

pub returns-clause-joined : goal.returns-clause-joined
returns-clause-joined g c =
    let v = c.left.inside.pass.me.0 in
    let w = c.right.inside.pass.me.0 in
    let beside : v.first + v.count ≡ w.first = omega (arith, c.requires.beside, ap (λ x. x.first) c.left.view_is, ap (λ x. x.count) c.left.view_is, ap (λ x. x.first) c.right.view_is) in
    let met = ap (λ x. x.0) c.join_seat.ensures.2 in
    let now = ap (λ x. x.0) c.load.ensures.looks.0 ∙ ap (λ x. looked x c.load.result) met in
    let parts = subst (λ x. All (Extends x.seen) x.parts) met c.load.ensures.looks.1 in
    let core = joined_is c.left.inside.pass.table_id c.right.inside.pass.table_id c.load.new.pass.table_id v w c.load.result beside parts in
    subst (λ x. IsJoined c.args.left c.args.right (seat_state c.load.new.pass.table_id x)) (sym now) (subst₂ (λ a b. IsJoined a b (seat_state c.load.new.pass.table_id (looked (joined v w) c.load.result))) c.left.view_is c.right.view_is core)
