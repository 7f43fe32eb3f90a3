use Rattle.margin_verify.proofs.Judgings.{verified, failed_inputs}
use Rattle.margin_verify.proofs.judging.judge_files.Goals as goal

pub returns-in_err-inputs-clause-ends : goal.returns-in_err-inputs-clause-ends
returns-in_err-inputs-clause-ends g c =
    failed_inputs c.args.files.params.now c.args.files.terms.now c.args.files.audit.now _ _ c.in_err-inputs.field-0.0 c.from_residual.result c.from_residual.ensures.1 c.in_err-inputs.ensures.ends

pub returns-in-Ok-clause-ends : goal.returns-in-Ok-clause-ends
returns-in-Ok-clause-ends g c =
    verified c.args.files.params.now c.args.files.terms.now c.args.files.audit.now _ _ _ c.in_ok-inputs.inputs.params c.in_ok-inputs.inputs.terms c.in-Ok.verdict c.in_ok-inputs.ensures.ends c.in-Ok.ensures.ends
