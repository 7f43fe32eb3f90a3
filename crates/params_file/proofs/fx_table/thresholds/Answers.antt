use Rattle.params_file.specs.Fx.{fx_thresholds}
use Rattle.params_file.proofs.fx_table.thresholds.Goals as goal

pub returns-clause-value : goal.returns-clause-value
unfolding fx_thresholds
returns-clause-value c = rw (← c.member.ensures) c.category_thresholds.ensures.value
