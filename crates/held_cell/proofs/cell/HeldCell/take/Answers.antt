use Rattle.std.proofs.Common.{sym, ap, ◌∙◌, arith}
use Rattle.held_cell.proofs.Taking.{tries}
use Rattle.held_cell.proofs.cell.HeldCell.take.Goals as goal

pub compare_exchange-requires : goal.compare_exchange-requires
compare_exchange-requires g c =
    let shared = c.self.inside.table.shared in
    let rests = c.requires.rests in (
      c.requires.table ∙ sym (ap (λ x. x.table) c.self.view_is),
      omega (arith, c.self.invariant.0),
      tries g.M.Machine.base g.M.Machine.journal g.M.Machine.is_legal (g.M.Machine.base shared.key.machine.value) shared.key.callers shared.table_id.slots c.args.pass.now.id c.args.loaded c.args.pass.now.me
          c.self.invariant.1 rests.0 rests.1 rests.2 c.requires.even,
    )
