use Rattle.negated_book.proofs.CreditClasses.{credit_value-turns, credit_vega_value-turns, credit_curvature_value-turns, credit_delta-even, credit_vega-even, credit_curvature_parts-turn}
use Rattle.negated_book.proofs.credit.credit_turns.Goals as goal

pub returns : goal.returns
returns c = record {
  delta_value = credit_value-turns;
  vega_value = credit_vega_value-turns;
  curvature_value = credit_curvature_value-turns;
  delta = credit_delta-even;
  vega = credit_vega-even;
  curvature = credit_curvature_parts-turn;
}
