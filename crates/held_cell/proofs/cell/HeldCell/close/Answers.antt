use Rattle.std.proofs.Common.{◌≡◌, sym, ap, subst, ◌∙◌, IsSome, refl}
use Rattle.held_cell.specs.Seats.{HasOwn}
use Rattle.held_cell.proofs.Closing.{ended}
use Rattle.held_cell.proofs.cell.HeldCell.close.Goals as goal

pub unwrap-machine-requires : goal.unwrap-machine-requires
unwrap-machine-requires g c =
    let key = c.self.inside.table.shared.key in
    let e = ended g.M.Machine.base g.M.Machine.journal g.M.Machine.is_legal (g.M.Machine.base key.machine.value) key.callers c.seat.inside.pass.id _ _ c.seat.inside.pass.me.0 _ _ c.take.result c.args.self c.args.seat
    c.self.view_is c.seat.view_is c.requires.all c.seat.invariant.idle c.close_with-closed.ensures.values.2 c.take.ensures.value in
    subst (λ o. IsSome o) (sym e.is) refl

pub returns-clause-base : goal.returns-clause-base
returns-clause-base g c =
    let key = c.self.inside.table.shared.key in
    let e = ended g.M.Machine.base g.M.Machine.journal g.M.Machine.is_legal (g.M.Machine.base key.machine.value) key.callers c.seat.inside.pass.id _ _ c.seat.inside.pass.me.0 _ _ c.take.result c.args.self c.args.seat
    c.self.view_is c.seat.view_is c.requires.all c.seat.invariant.idle c.close_with-closed.ensures.values.2 c.take.ensures.value in
    let same : c.unwrap-machine.result ≡ e.machine = cc (e.is, c.unwrap-machine.ensures) in ap g.M.Machine.base same ∙ e.base_is

pub returns-clause-journal : goal.returns-clause-journal
returns-clause-journal g c =
    let key = c.self.inside.table.shared.key in
    let e = ended g.M.Machine.base g.M.Machine.journal g.M.Machine.is_legal (g.M.Machine.base key.machine.value) key.callers c.seat.inside.pass.id _ _ c.seat.inside.pass.me.0 _ _ c.take.result c.args.self c.args.seat
    c.self.view_is c.seat.view_is c.requires.all c.seat.invariant.idle c.close_with-closed.ensures.values.2 c.take.ensures.value in
    let same : c.unwrap-machine.result ≡ e.machine = cc (e.is, c.unwrap-machine.ensures) in ap g.M.Machine.journal same ∙ e.journal_is

pub returns-clause-own : goal.returns-clause-own
returns-clause-own g c =
    let key = c.self.inside.table.shared.key in
    let e = ended g.M.Machine.base g.M.Machine.journal g.M.Machine.is_legal (g.M.Machine.base key.machine.value) key.callers c.seat.inside.pass.id _ _ c.seat.inside.pass.me.0 _ _ c.take.result c.args.self c.args.seat
    c.self.view_is c.seat.view_is c.requires.all c.seat.invariant.idle c.close_with-closed.ensures.values.2 c.take.ensures.value in
    (subst HasOwn c.seat.view_is refl, e.own_is)
