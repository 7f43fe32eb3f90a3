use Rattle.std.proofs.Common.{◌++◌, ◌∙◌, ap}
use Rattle.std.specs.List.{flat_map}
use Rattle.measured_bucket.specs.SimmKinds.declared.kinds.Measure.{Measure}
use Rattle.bucket_cache.specs.BookMargin.Measures.{measure_in}
use Rattle.bucket_cache.specs.FactorBook.Places.{by_side}
use Rattle.bucket_cache.specs.KeptBuckets.Kept.{cached_in}
use Rattle.breakdown_text.proofs.Pieces.{three_pieces}
use Rattle.explain_text.specs.Sides.{first_measure, second_measure, margin_line, place_lines}
use Rattle.explain_text.proofs.side_lines.push_side.Goals as goal

pub returns : goal.returns
returns c =
    let K = cached_in c.args.kept.now in
    let M = λ (m : Measure). (measure_in c.args.margins m).0 in
    let p = c.args.params.now in
    let them = by_side c.args.product c.args.class c.args.side c.args.factors.now in
    three_pieces (flat_map (place_lines p K) them)
    (margin_line K M c.args.product c.args.class them (first_measure c.args.side)) (margin_line K M c.args.product c.args.class them (second_measure c.args.side))
    c.args.text.now c.push_places.new.text c.push_margin.new.text c.push_margin-2.new.text
    c.in_ok-push_places.ensures
    (c.in_ok-push_margin.ensures ∙ ap (λ m. c.push_places.new.text ++ margin_line K M c.args.product c.args.class them m) c.first_measure.ensures)
    (c.in_ok-push_margin-2.ensures ∙ ap (λ m. c.push_margin.new.text ++ margin_line K M c.args.product c.args.class them m) c.second_measure.ensures)
