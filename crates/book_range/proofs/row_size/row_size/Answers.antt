use Rattle.std.proofs.Common.{ap}
use Rattle.simm_params.specs.SimmRules.Net.{sensitivity}
use Rattle.book_range.proofs.Sizing.{sensitivity_weighs}
use Rattle.book_range.proofs.row_size.row_size.Goals as goal

pub returns-in-Sensitivity-clause-value : goal.returns-in-Sensitivity-clause-value
returns-in-Sensitivity-clause-value c =
    sensitivity_weighs c.args.params.now c.args.row.now c.in-Sensitivity.key c.in-Sensitivity.amount.0 c.key_size.result (ap sensitivity c.in-Sensitivity.is) c.key_size.ensures.place c.key_size.ensures.size
