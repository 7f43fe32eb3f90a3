use Rattle.negated_book.proofs.PricedClasses.{price_value-turns, price_vega_value-turns, price_curvature_value-turns, price_delta-even, price_vega-even, price_curvature_parts-turn}
use Rattle.negated_book.proofs.priced.names_turn.Goals as goal

pub returns : goal.returns
returns c = record {
  delta_value = price_value-turns;
  vega_value = price_vega_value-turns;
  curvature_value = price_curvature_value-turns;
  delta = price_delta-even;
  vega = price_vega-even;
  curvature = price_curvature_parts-turn;
}
