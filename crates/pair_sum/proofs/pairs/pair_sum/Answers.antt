use Rattle.std.proofs.Common.{arith, length, map, ◌∙◌, refl}
use Rattle.std.proofs.lemmas.Int.{ints}
use Rattle.std.proofs.lemmas.List.{length-map}
use Rattle.pair_sum.specs.PairTotal.{term}
use Rattle.pair_sum.proofs.Sums.{sizes_below-all}
use Rattle.pair_sum.proofs.Squares.{correlates, square_step, total_is, total_size, square_in_range}
use Rattle.pair_sum.proofs.pairs.pair_sum.Goals as goal

pub overflow_add-sum : goal.overflow_add-sum
overflow_add-sum g c =
    let corr = g.C.Correlation.corr c.args.corr.now in
    let ws = map g.T.Weighted.weight c.args.items.now in
    let laws = correlates corr _ (length c.args.items.now) c.requires.size (g.met.C.Correlation.symmetric c.args.corr.now) (g.met.C.Correlation.at_most_one c.args.corr.now) in
    let step = square_step corr ws (length c.args.items.now) c.loop-row.row _ c.row_below-below.result (term corr ws c.loop-row.row c.loop-row.row) laws (omega (arith, sizes_below-all g.T.Weighted.weight c.args.items.now)) c.loop-row-test.true c.loop-row.invariant.0 c.row_below-below.ensures.value refl in
    omega (arith, ints, step.twice)

pub overflow_add-sum-in-loop-row : goal.overflow_add-sum-in-loop-row
overflow_add-sum-in-loop-row g c =
    let corr = g.C.Correlation.corr c.args.corr.now in
    let ws = map g.T.Weighted.weight c.args.items.now in
    let laws = correlates corr _ (length c.args.items.now) c.requires.size (g.met.C.Correlation.symmetric c.args.corr.now) (g.met.C.Correlation.at_most_one c.args.corr.now) in
    let step = square_step corr ws (length c.args.items.now) c.loop-row.row _ c.row_below-below.result c.pair_at.result laws (omega (arith, sizes_below-all g.T.Weighted.weight c.args.items.now)) c.loop-row-test.true c.loop-row.invariant.0 c.row_below-below.ensures.value c.pair_at.ensures.value in
    omega (arith, ints, step.twice, step.added)

pub overflow_add-sum-in-loop-row-2 : goal.overflow_add-sum-in-loop-row-2
overflow_add-sum-in-loop-row-2 g c =
    let corr = g.C.Correlation.corr c.args.corr.now in
    let ws = map g.T.Weighted.weight c.args.items.now in
    let laws = correlates corr _ (length c.args.items.now) c.requires.size (g.met.C.Correlation.symmetric c.args.corr.now) (g.met.C.Correlation.at_most_one c.args.corr.now) in
    let step = square_step corr ws (length c.args.items.now) c.loop-row.row _ c.row_below-below.result c.pair_at.result laws (omega (arith, sizes_below-all g.T.Weighted.weight c.args.items.now)) c.loop-row-test.true c.loop-row.invariant.0 c.row_below-below.ensures.value c.pair_at.ensures.value in
    omega (arith, ints, step.twice, step.added, step.size)

pub loop-row-preserved : goal.loop-row-preserved
loop-row-preserved g c =
    let corr = g.C.Correlation.corr c.args.corr.now in
    let ws = map g.T.Weighted.weight c.args.items.now in
    let laws = correlates corr _ (length c.args.items.now) c.requires.size (g.met.C.Correlation.symmetric c.args.corr.now) (g.met.C.Correlation.at_most_one c.args.corr.now) in
    let step = square_step corr ws (length c.args.items.now) c.loop-row.row _ c.row_below-below.result c.pair_at.result laws (omega (arith, sizes_below-all g.T.Weighted.weight c.args.items.now)) c.loop-row-test.true c.loop-row.invariant.0 c.row_below-below.ensures.value c.pair_at.ensures.value in
    (omega (arith, ints, step.twice, step.added, step.size) ∙ step.value, omega (arith, c.loop-row.invariant.1))

pub returns-clause-value : goal.returns-clause-value
returns-clause-value g c =
    let items = c.args.items.now in
    let total = total_is (g.C.Correlation.corr c.args.corr.now) (map g.T.Weighted.weight items) (length items) c.loop-row.row _ (length-map items g.T.Weighted.weight) (omega arith) c.loop-row.invariant.0 in
    total

pub returns-clause-gross : goal.returns-clause-gross
returns-clause-gross g c =
    let items = c.args.items.now in
    let total = total_is (g.C.Correlation.corr c.args.corr.now) (map g.T.Weighted.weight items) (length items) c.loop-row.row _ (length-map items g.T.Weighted.weight) (omega arith) c.loop-row.invariant.0 in
    let laws = correlates (g.C.Correlation.corr c.args.corr.now) _ (length items) c.requires.size (g.met.C.Correlation.symmetric c.args.corr.now) (g.met.C.Correlation.at_most_one c.args.corr.now) in
    let size = total_size (g.C.Correlation.corr c.args.corr.now) (map g.T.Weighted.weight items) (length items) _ _ laws (length-map items g.T.Weighted.weight) (sizes_below-all g.T.Weighted.weight items) total in
    size

pub returns-clause-size : goal.returns-clause-size
returns-clause-size g c =
    let items = c.args.items.now in
    let total = total_is (g.C.Correlation.corr c.args.corr.now) (map g.T.Weighted.weight items) (length items) c.loop-row.row _ (length-map items g.T.Weighted.weight) (omega arith) c.loop-row.invariant.0 in
    let laws = correlates (g.C.Correlation.corr c.args.corr.now) _ (length items) c.requires.size (g.met.C.Correlation.symmetric c.args.corr.now) (g.met.C.Correlation.at_most_one c.args.corr.now) in
    let size = total_size (g.C.Correlation.corr c.args.corr.now) (map g.T.Weighted.weight items) (length items) _ _ laws (length-map items g.T.Weighted.weight) (sizes_below-all g.T.Weighted.weight items) total in
    omega (arith, size, square_in_range _ c.requires.in_range)
