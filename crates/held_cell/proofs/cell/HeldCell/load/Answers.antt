use Rattle.std.proofs.Common.{sym, ap, ◌∙◌, arith}
use Rattle.held_cell.proofs.Looking.{looks}
use Rattle.held_cell.proofs.cell.HeldCell.load.Goals as goal

pub load-requires : goal.load-requires
load-requires g c =
    let shared = c.self.inside.table.shared in (
      c.requires ∙ sym (ap (λ x. x.table) c.self.view_is),
      omega (arith, c.self.invariant.0),
      looks g.M.Machine.base g.M.Machine.journal g.M.Machine.is_legal (g.M.Machine.base shared.key.machine.value) shared.key.callers shared.table_id.slots c.args.pass.now.id c.args.pass.now.me,
    )
