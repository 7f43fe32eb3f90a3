use Rattle.std.proofs.Common.{sym, ap, ◌∙◌, Some}
use Rattle.held_cell.proofs.Slots.{one_slot}
use Rattle.held_cell.proofs.cell.HeldCell.take_out.Goals as goal

pub exchange-requires : goal.exchange-requires
exchange-requires g c = (c.requires.table ∙ sym (ap (λ x. x.table) c.self.view_is), (Some c.requires.holding.machine, one_slot c.args.pass.now.me.1 (0, Some c.requires.holding.machine) c.requires.holding.slot))
