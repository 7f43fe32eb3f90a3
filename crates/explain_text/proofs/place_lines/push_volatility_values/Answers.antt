use Rattle.measured_bucket.specs.SimmKinds.declared.kinds.Measure.TheVariants as measure
use Rattle.bucket_cache.specs.KeptBuckets.Kept.{cached_in}
use Rattle.breakdown_text.proofs.Pieces.{two_pieces}
use Rattle.explain_text.specs.Factors.{curvature_lines, vega_lines}
use Rattle.explain_text.specs.Sides.{value_lines}
use Rattle.explain_text.proofs.place_lines.push_volatility_values.Goals as goal

pub returns : goal.returns
returns c =
    let K = cached_in c.args.kept.now in
    let p = c.args.params.now in
    let lent = c.args.lent.now in
    let slot = c.args.slot.now in
    two_pieces (value_lines K lent.place measure.Vega (vega_lines p (lent.place).product lent.factors slot)) (value_lines K lent.place measure.Curvature (curvature_lines p (lent.place).product lent.factors slot))
    c.args.text.now c.push_vega_value.new.text c.push_curvature_value.new.text c.in_ok-push_vega_value.ensures c.in_ok-push_curvature_value.ensures
