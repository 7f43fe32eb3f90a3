use Rattle.margin_explain.proofs.ExplainLemmas.{text_ends}
use Rattle.margin_explain.proofs.text_of.text_of_files.Goals as goal

pub returns-clause-ends : goal.returns-clause-ends
returns-clause-ends g c =
    text_ends _ _ c.args.params.now c.args.crif.now c.in_ok-input.input.params c.in_ok-input.input.batch c.text_of_batch.result c.in_ok-input.ensures.ends c.text_of_batch.ensures
