use Rattle.std.proofs.Common.{◌≡◌, rules, ◌*ℤ◌, map, FitsSigned}
use Rattle.std.proofs.lemmas.Int.{to_z-of_z}
use Rattle.std.specs.Int.{w128}
use Rattle.pair_sum.specs.PairTotal.{term}
use Rattle.pair_sum.proofs.Sums.{at_place-map}
use Rattle.pair_sum.proofs.pairs.pair_at.Goals as goal

pub returns-clause-value : goal.returns-clause-value
returns-clause-value g c =
    let fits_first : FitsSigned w128 c.weight.result = search rules in
    let fits_second : FitsSigned w128 c.weight-2.result = search rules in
    let fits_term : FitsSigned w128 c.pair_term.result = search rules in
    let value : c.pair_term.result ≡ c.corr.result.0 *ℤ c.weight.result *ℤ c.weight-2.result = simp to_z-of_z at c.pair_term.ensures.value in
    let first = at_place-map g.T.Weighted.weight c.args.items.now c.args.row c.index-items-row.result c.requires.row_in c.index-items-row.is in
    let second = at_place-map g.T.Weighted.weight c.args.items.now c.args.place c.index-items-place.result c.requires.place_in c.index-items-place.is in
    let product : c.pair_term.result ≡ term (g.C.Correlation.corr c.args.corr.now) (map g.T.Weighted.weight c.args.items.now) c.args.row c.args.place = cc in
    simp to_z-of_z product
