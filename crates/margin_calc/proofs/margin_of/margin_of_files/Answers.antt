use Rattle.margin_calc.proofs.CalcLemmas.{batch_ends}
use Rattle.margin_calc.proofs.margin_of.margin_of_files.Goals as goal

pub returns-clause-ends : goal.returns-clause-ends
returns-clause-ends g c =
    batch_ends _ _ c.args.params.now c.args.crif.now c.in_ok-input.input.params c.in_ok-input.input.batch c.margin_of_batch.result c.in_ok-input.ensures.ends c.margin_of_batch.ensures
