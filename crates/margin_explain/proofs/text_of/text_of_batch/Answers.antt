use Rattle.std.proofs.Common.{Err, ◌∙◌, ap, sym, refl, inl}
use Rattle.explain_text.specs.SimmKinds.Batch.{rows_of}
use Rattle.explain_text.specs.SimmRules.Range.{range}
use Rattle.explain_text.specs.BucketCache.declared.figures.BatchFigures.{BatchFigures}
use Rattle.explain_text.specs.BucketCache.Live.{first_unadmitted}
use Rattle.explain_text.specs.Explained.{explain_text}
use Rattle.margin_calc.proofs.CalcLemmas.{says_of}
use Rattle.margin_explain.proofs.text_of.text_of_batch.Goals as goal

pub returns-in-Err : goal.returns-in-Err
returns-in-Err c =
    c.batch_fault.ensures c.args.params.now c.args.batch.now
    (says_of {A = BatchFigures} c.args.params.now c.args.batch.now c.trades-trades.result.now c.in-Err.fault (Err c.in-Err.fault) c.trades-trades.ensures.value refl
    c.in-Err.ensures.unadmitted c.in-Err.ensures.range c.in-Err.ensures.range_of_admitted)

pub explained_lines-requires : goal.explained_lines-requires
explained_lines-requires c = c.in-Ok.ensures.figures

pub returns-in-Ok-explained_lines : goal.returns-in-Ok-explained_lines
returns-in-Ok-explained_lines c = (
  ap (first_unadmitted c.args.params.now) (sym c.trades-trades.ensures.value) ∙ c.in-Ok.ensures.admitted,
  ap (λ ts. range c.args.params.now (rows_of ts)) (sym c.trades-trades.ensures.value) ∙ c.in-Ok.ensures.in_range,
  c.in-Ok-explained_lines.ensures ∙ ap (λ ts. explain_text c.args.params.now (rows_of ts)) c.trades-trades.ensures.value,
)

pub returns : goal.returns
returns c = inl refl
