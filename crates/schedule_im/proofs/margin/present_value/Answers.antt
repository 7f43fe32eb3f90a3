use Rattle.std.proofs.Common.{drop, to_z, ◌∙◌}
use Rattle.std.specs.Int.{w128}
use Rattle.std.proofs.lemmas.List.{drop_all}
use Rattle.schedule_im.specs.Parts.{cost}
use Rattle.schedule_im.proofs.Adding.{ends}
use Rattle.schedule_im.proofs.Costs.{total-cost}
use Rattle.schedule_im.proofs.margin.present_value.Goals as goal

pub returns-clause-value : goal.returns-clause-value
returns-clause-value c =
    let rows = c.args.rows.now in
    let at = c.loop-row.row-index in
    ends cost rows (drop at rows) (to_z w128 c.loop-row.sum-bits) (drop_all at rows c.loop-row-test.false) c.loop-row.invariant ∙ total-cost rows
