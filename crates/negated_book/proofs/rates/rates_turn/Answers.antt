use Rattle.negated_book.proofs.RateClass.{currency_value-turns, currency_vega_value-turns, currency_curvature_value-turns, rate_delta-even, rate_vega-even, rate_curvature_parts-turn}
use Rattle.negated_book.proofs.rates.rates_turn.Goals as goal

pub returns : goal.returns
returns c = record {
  delta_value = currency_value-turns;
  vega_value = currency_vega_value-turns;
  curvature_value = currency_curvature_value-turns;
  delta = rate_delta-even;
  vega = rate_vega-even;
  curvature = rate_curvature_parts-turn;
}
