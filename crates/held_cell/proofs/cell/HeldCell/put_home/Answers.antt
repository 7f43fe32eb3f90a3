use Rattle.std.proofs.Common.{sym, ap, ◌∙◌, arith, Some}
use Rattle.held_cell.proofs.Giving.{gives_home}
use Rattle.held_cell.proofs.Slots.{same_slot}
use Rattle.held_cell.proofs.cell.HeldCell.put_home.Goals as goal

pub store-requires : goal.store-requires
store-requires g c =
    let shared = c.self.inside.table.shared in
    let v = c.args.pass.now.me.0 in
    let is = same_slot v (Some c.args.machine) c.args.pass.now.me.1 _ c.exchange-nothing.new.seat.me c.requires.slot c.exchange-nothing.ensures.3 in (
      c.exchange-nothing.ensures.0 ∙ c.requires.table ∙ sym (ap (λ x. x.table) c.self.view_is),
      omega (arith, c.self.invariant.0),
      gives_home g.M.Machine.base g.M.Machine.journal g.M.Machine.is_legal (g.M.Machine.base shared.key.machine.value) shared.key.callers shared.table_id.slots c.exchange-nothing.new.seat.id _
          c.exchange-nothing.new.seat.me v c.args.machine c.self.invariant.1 is c.requires.out (omega (arith, c.entries-entries.ensures, c.from.ensures)),
    )
