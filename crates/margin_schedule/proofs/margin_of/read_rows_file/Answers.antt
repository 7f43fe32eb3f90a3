use Rattle.command_files.proofs.FileLemmas.{no_bytes}
use Rattle.margin_schedule.specs.Schedule.{GivesRows, RefusesRows}
use Rattle.margin_schedule.proofs.margin_of.read_rows_file.Goals as goal

pub returns-in_err-bytes-clause-ends : goal.returns-in_err-bytes-clause-ends
returns-in_err-bytes-clause-ends g c =
    no_bytes (λ bytes rows. GivesRows bytes rows.items) RefusesRows _ _ c.args.name.now c.in_err-bytes.field-0.0 c.from_residual.result c.from_residual.ensures.1 c.in_err-bytes.ensures.ends
