use Rattle.std.proofs.Common.{Err, refl, ap, sym, ◌∙◌}
use Rattle.simm_kinds.specs.Batch.{rows_of}
use Rattle.simm_rules.specs.declared.values.Breakdown.{Breakdown}
use Rattle.simm_rules.specs.Range.{range}
use Rattle.simm_rules.specs.Simm.{simm}
use Rattle.set_core.specs.BucketCache.Live.{first_unadmitted}
use Rattle.margin_calc.proofs.CalcLemmas.{says_of}
use Rattle.margin_calc.proofs.margin_of.margin_of_batch.Goals as goal

pub returns-in-Ok : goal.returns-in-Ok
returns-in-Ok c = (
  ap (first_unadmitted c.args.params.now) (sym c.trades.ensures.value) ∙ c.in-Ok.ensures.admitted,
  ap (λ ts. range c.args.params.now (rows_of ts)) (sym c.trades.ensures.value) ∙ c.in-Ok.ensures.in_range,
  c.in-Ok.ensures.value ∙ ap (λ ts. simm c.args.params.now (rows_of ts)) c.trades.ensures.value,
)

pub returns-in-Err : goal.returns-in-Err
returns-in-Err c =
    c.batch_fault.ensures c.args.params.now c.args.batch.now
    (says_of {A = Breakdown} c.args.params.now c.args.batch.now c.trades.result.now c.in-Err.fault (Err c.in-Err.fault) c.trades.ensures.value refl c.in-Err.ensures.unadmitted c.in-Err.ensures.range c.in-Err.ensures.range_of_admitted)
