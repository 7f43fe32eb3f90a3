use Rattle.std.proofs.Common.{◌≡◌, ◌<◌, ◌*◌, ◌^◌, ◌*ℤ◌, ◌∙◌, map, length, FitsSigned, rules, arith, ⊎_elim}
use Rattle.std.proofs.lemmas.Bool.{cases_lt}
use Rattle.std.proofs.lemmas.Int.{ints}
use Rattle.std.specs.Int.{w128}
use Rattle.pair_sum.specs.PairTotal.{at_place}
use Rattle.pair_sum.specs.Marked.{beside}
use Rattle.pair_sum.proofs.Sums.{sizes_below, sizes_below-all}
use Rattle.pair_sum.proofs.Squares.{correlates}
use Rattle.pair_sum.proofs.Rows.{row_step}
use Rattle.pair_sum.proofs.MarkedSteps.{beside-small}
use Rattle.pair_sum.proofs.beside.correlated_beside.Goals as goal

pub overflow_add-sum : goal.overflow_add-sum
overflow_add-sum g c =
    let marked = g.M.Marks.is_marked c.args.marked.now in
    let corr = g.C.Correlation.corr c.args.corr.now in
    let items = c.args.items.now in
    let ws = map g.T.Weighted.weight items in
    let laws = correlates corr _ (length items) c.requires.size (g.met.C.Correlation.symmetric c.args.corr.now) (g.met.C.Correlation.at_most_one c.args.corr.now) in
    let small = beside-small marked corr (length items) c.args.row (λ j below. laws.at_most_one c.args.row j c.requires.row_in below) in
    let range : sizes_below (at_place ws) (length items) < 84 * 10 ^ 14 = omega (arith, sizes_below-all g.T.Weighted.weight items) in
    let place = c.loop-place.place in
    let fits_more : FitsSigned w128 c.amount_beside-sum.result = search rules in
    let more : c.amount_beside-sum.result ≡ beside marked corr c.args.row place *ℤ at_place ws place = c.amount_beside-sum.ensures.value in
    let step = row_step (beside marked corr) ws (length items) c.args.row place _ c.amount_beside-sum.result small range (omega arith) c.loop-place.invariant.0 more in
    omega (arith, ints, step.size)

pub loop-place-preserved : goal.loop-place-preserved
loop-place-preserved g c =
    let marked = g.M.Marks.is_marked c.args.marked.now in
    let corr = g.C.Correlation.corr c.args.corr.now in
    let items = c.args.items.now in
    let ws = map g.T.Weighted.weight items in
    let laws = correlates corr _ (length items) c.requires.size (g.met.C.Correlation.symmetric c.args.corr.now) (g.met.C.Correlation.at_most_one c.args.corr.now) in
    let small = beside-small marked corr (length items) c.args.row (λ j below. laws.at_most_one c.args.row j c.requires.row_in below) in
    let range : sizes_below (at_place ws) (length items) < 84 * 10 ^ 14 = omega (arith, sizes_below-all g.T.Weighted.weight items) in
    let place = c.loop-place.place in
    let fits_more : FitsSigned w128 c.amount_beside-sum.result = search rules in
    let more : c.amount_beside-sum.result ≡ beside marked corr c.args.row place *ℤ at_place ws place = c.amount_beside-sum.ensures.value in
    let step = row_step (beside marked corr) ws (length items) c.args.row place _ c.amount_beside-sum.result small range (omega arith) c.loop-place.invariant.0 more in
    (omega (arith, ints, step.size) ∙ step.value, omega (arith, c.loop-place.invariant.1), λ h. ⊎_elim (λ below. omega (arith, c.loop-place.invariant.2 below)) (λ at. let same : c.args.row ≡ place = omega arith in omega (arith, c.amount_beside-sum.ensures.own same, c.loop-place.invariant.1)) (cases_lt c.args.row place))
