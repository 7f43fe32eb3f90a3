use Rattle.std.proofs.Common.{◌++◌, ◌∙◌, ap}
use Rattle.std.specs.List.{flat_map}
use Rattle.bucket_cache.specs.FactorBook.declared.place.Place.{Place}
use Rattle.bucket_cache.specs.KeptBuckets.Kept.{cached_in}
use Rattle.breakdown_text.proofs.Pieces.{two_pieces}
use Rattle.explain_text.specs.Lines.{net_line}
use Rattle.explain_text.specs.Sides.{measured_lines}
use Rattle.explain_text.proofs.place_lines.push_place.Goals as goal

pub returns : goal.returns
returns c =
    let lent = c.args.lent.now in
    let measured = λ (q : Place). measured_lines c.args.params.now (cached_in c.args.kept.now) lent q.stand in
    two_pieces (flat_map net_line lent.factors) (measured lent.place) c.args.text.now c.push_nets.new.text c.push_measures.new.text c.in_ok-push_nets.ensures
    (c.in_ok-push_measures.ensures ∙ ap (λ q. c.push_nets.new.text ++ measured q) c.place.ensures)
