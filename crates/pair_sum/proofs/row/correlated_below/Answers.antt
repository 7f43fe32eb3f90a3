use Rattle.std.proofs.Common.{◌≡◌, ◌<◌, ◌*ℤ◌, ◌∙◌, map, length, FitsSigned, rules, arith}
use Rattle.std.proofs.lemmas.Int.{ints, to_z-of_z}
use Rattle.std.specs.Int.{w128}
use Rattle.pair_sum.specs.PairTotal.{at_place}
use Rattle.pair_sum.proofs.Sums.{sizes_below-all, at_place-map}
use Rattle.pair_sum.proofs.Squares.{correlates}
use Rattle.pair_sum.proofs.Rows.{row_step}
use Rattle.pair_sum.proofs.row.correlated_below.Goals as goal

pub overflow_add-sum : goal.overflow_add-sum
overflow_add-sum g c =
    let corr = g.C.Correlation.corr c.args.corr.now in
    let items = c.args.items.now in
    let ws = map g.T.Weighted.weight items in
    let place = c.loop-place.place in
    let inside : place < length items = omega arith in
    let laws = correlates corr _ (length items) c.requires.size (g.met.C.Correlation.symmetric c.args.corr.now) (g.met.C.Correlation.at_most_one c.args.corr.now) in
    let fits_amount : FitsSigned w128 c.weight.result = search rules in
    let fits_more : FitsSigned w128 c.correlated-sum.result = search rules in
    let product : c.correlated-sum.result ≡ c.corr.result.0 *ℤ c.weight.result = simp to_z-of_z at c.correlated-sum.ensures.value in
    let amount = at_place-map g.T.Weighted.weight items place c.index-items-place.result inside c.index-items-place.is in
    let more : c.correlated-sum.result ≡ corr c.args.row place *ℤ at_place ws place = cc in
    let step = row_step corr ws (length items) c.args.row place _ c.correlated-sum.result (λ j below. laws.at_most_one c.args.row j c.requires.row_in below) (omega (arith, sizes_below-all g.T.Weighted.weight items)) inside c.loop-place.invariant.0 more in
    omega (arith, ints, step.size)

pub loop-place-preserved : goal.loop-place-preserved
loop-place-preserved g c =
    let corr = g.C.Correlation.corr c.args.corr.now in
    let items = c.args.items.now in
    let ws = map g.T.Weighted.weight items in
    let place = c.loop-place.place in
    let inside : place < length items = omega arith in
    let laws = correlates corr _ (length items) c.requires.size (g.met.C.Correlation.symmetric c.args.corr.now) (g.met.C.Correlation.at_most_one c.args.corr.now) in
    let fits_amount : FitsSigned w128 c.weight.result = search rules in
    let fits_more : FitsSigned w128 c.correlated-sum.result = search rules in
    let product : c.correlated-sum.result ≡ c.corr.result.0 *ℤ c.weight.result = simp to_z-of_z at c.correlated-sum.ensures.value in
    let amount = at_place-map g.T.Weighted.weight items place c.index-items-place.result inside c.index-items-place.is in
    let more : c.correlated-sum.result ≡ corr c.args.row place *ℤ at_place ws place = cc in
    let step = row_step corr ws (length items) c.args.row place _ c.correlated-sum.result (λ j below. laws.at_most_one c.args.row j c.requires.row_in below) (omega (arith, sizes_below-all g.T.Weighted.weight items)) inside c.loop-place.invariant.0 more in
    (omega (arith, ints, step.size) ∙ step.value, omega (arith, c.loop-place.invariant.1))
