use Rattle.measured_bucket.specs.SimmKinds.declared.kinds.Measure.TheVariants as measure
use Rattle.bucket_cache.specs.FactorBook.declared.place.Place.{Place}
use Rattle.bucket_cache.specs.KeptBuckets.Kept.{cached_in}
use Rattle.explain_text.specs.Factors.{vega_lines}
use Rattle.explain_text.proofs.Values.{value_added}
use Rattle.explain_text.proofs.place_lines.push_vega_value.Goals as goal

pub returns-in_ok-push_vega-in-Some : goal.returns-in_ok-push_vega-in-Some
returns-in_ok-push_vega-in-Some c =
    let p = c.args.params.now in
    let lent = c.args.lent.now in
    value_added c.push_bucket_line.result (cached_in c.args.kept.now) c.place-place.result lent.place measure.Vega (λ (q : Place). vega_lines p q.product lent.factors c.args.slot.now)
    c.in-Some.value c.args.text.now c.push_vega.new.text c.push_bucket_line.new.text
    c.place-place.ensures c.in-Some.ensures c.in_ok-push_vega-in-Some.ensures c.push_bucket_line.ensures
