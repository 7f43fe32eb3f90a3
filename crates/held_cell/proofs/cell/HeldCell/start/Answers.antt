use Rattle.std.proofs.Common.{sym, ap, subst, ◌∙◌, ◌∷◌, ◌++◌, [], Some, arith}
use Rattle.atomic_table.specs.Table.{opening}
use Rattle.held_cell.specs.Views.{opened}
use Rattle.held_cell.specs.Rule.{IsKept}
use Rattle.held_cell.proofs.Opening.{opens}
use Rattle.held_cell.proofs.cell.HeldCell.start.Goals as goal

pub new-requires : goal.new-requires
new-requires g c =
    let base = g.M.Machine.base c.of.result.value in
    let items = c.push_reserved.ensures.items ∙ ap (λ xs. xs ++ Some c.args.machine ∷ []) c.in_ok-slots.ensures.items in
    subst (λ xs. IsKept g.M.Machine.base g.M.Machine.journal g.M.Machine.is_legal base c.args.callers (opening (0 ∷ []) xs (opened base c.args.callers))) (sym items)
    (opens g.M.Machine.base g.M.Machine.journal g.M.Machine.is_legal base c.args.callers c.args.machine c.requires.empty (ap g.M.Machine.base (sym c.of.ensures)) (g.met.M.Machine.starts base) (omega (arith, c.requires.callers)))
