use Rattle.std.proofs.Common.{arith, refl}
use Rattle.command_files.specs.Grammars.{RefusesTerms}
use Rattle.command_files.proofs.AfterParamsLemmas.{fails_after_params}
use Rattle.command_files.proofs.InputsLemmas.{inputs_read}
use Rattle.command_files.proofs.inputs.read_inputs.Goals as goal

pub returns-in-Err-read_terms_file-clause-ends : goal.returns-in-Err-read_terms_file-clause-ends
returns-in-Err-read_terms_file-clause-ends g c = (
  refl,
  fails_after_params _ _ _ c.args.params_name.now c.args.terms_name.now c.in-Ok.params RefusesTerms c.in-Err-read_terms_file.why c.in-Ok.ensures.ends c.in-Ok.ensures.counts.finds c.in-Ok.ensures.counts.reads c.in-Err-read_terms_file.ensures.ends,
)

pub returns-in-Ok-read_terms_file-clause-ends : goal.returns-in-Ok-read_terms_file-clause-ends
returns-in-Ok-read_terms_file-clause-ends g c =
    inputs_read _ _ _ c.args.params_name.now c.args.terms_name.now c.in-Ok.params c.in-Ok-read_terms_file.terms c.in-Ok.ensures.ends c.in-Ok-read_terms_file.ensures.ends
    (omega (arith, c.in-Ok.ensures.counts.finds, c.in-Ok-read_terms_file.ensures.counts.finds)) (omega (arith, c.in-Ok.ensures.counts.reads, c.in-Ok-read_terms_file.ensures.counts.reads))
