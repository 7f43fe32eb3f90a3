use Rattle.command_files.specs.Grammars.{GivesTrades, RefusesTrades}
use Rattle.command_files.proofs.FileLemmas.{no_bytes}
use Rattle.command_files.proofs.value_files.read_crif_file.Goals as goal

pub returns-in_err-bytes-clause-ends : goal.returns-in_err-bytes-clause-ends
returns-in_err-bytes-clause-ends g c =
    no_bytes GivesTrades (RefusesTrades c.args.word.now) _ _ c.args.name.now c.in_err-bytes.field-0.0 c.from_residual.result c.from_residual.ensures.1 c.in_err-bytes.ensures.ends
