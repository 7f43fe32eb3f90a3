use Rattle.std.proofs.Common.{refl, codes}
use Rattle.command_files.specs.Grammars.{RefusesTrades}
use Rattle.command_files.proofs.AfterParamsLemmas.{fails_after_params}
use Rattle.margin_calc.proofs.CalcLemmas.{both_read}
use Rattle.margin_calc.proofs.files.read_both.Goals as goal

pub returns-in-Err-clause-ends : goal.returns-in-Err-clause-ends
returns-in-Err-clause-ends g c = (refl, c.in-Err.ensures.ends)

pub returns-in-Err-read_crif_file-clause-ends : goal.returns-in-Err-read_crif_file-clause-ends
returns-in-Err-read_crif_file-clause-ends g c = (
  refl,
  fails_after_params _ _ _ c.args.params.now c.args.crif.now c.in-Ok.values (RefusesTrades (codes "CRIF")) c.in-Err-read_crif_file.why c.in-Ok.ensures.ends c.in-Ok.ensures.counts.finds c.in-Ok.ensures.counts.reads c.in-Err-read_crif_file.ensures.ends,
)

pub returns-in-Ok-read_crif_file-clause-ends : goal.returns-in-Ok-read_crif_file-clause-ends
returns-in-Ok-read_crif_file-clause-ends g c =
    both_read _ _ _ c.args.params.now c.args.crif.now c.in-Ok.values c.in-Ok-read_crif_file.batch c.in-Ok.ensures.ends c.in-Ok-read_crif_file.ensures.ends
