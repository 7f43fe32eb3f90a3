use Rattle.negated_book.proofs.ExchangeClass.{fx_value-turns, fx_vega_value-turns, fx_curvature_value-turns, fx_delta-even, fx_vega-even, fx_curvature_part-turns}
use Rattle.negated_book.proofs.exchange.exchange_turns.Goals as goal

pub returns : goal.returns
returns c = record {
  delta_value = fx_value-turns;
  vega_value = fx_vega_value-turns;
  curvature_value = fx_curvature_value-turns;
  delta = fx_delta-even;
  vega = fx_vega-even;
  curvature = fx_curvature_part-turns;
}
