use Rattle.std.proofs.Common.{◌≡◌, ◌+◌, ◌∙◌, sym, ap, map, length, FitsSigned, rules, arith, unsigned_abs}
use Rattle.std.proofs.lemmas.Int.{ints}
use Rattle.std.proofs.lemmas.List.{length-map}
use Rattle.std.specs.Int.{w128}
use Rattle.pair_sum.specs.Marked.{marked_before}
use Rattle.pair_sum.proofs.Squares.{correlates}
use Rattle.pair_sum.proofs.MarkedPairs.{range_of, marked_in_range}
use Rattle.pair_sum.proofs.MarkedSteps.{touched_none, touched_all, count_step}
use Rattle.pair_sum.proofs.marked.marked_sum.Goals as goal

pub loop-row-init : goal.loop-row-init
loop-row-init g c =
    let marked = g.M.Marks.is_marked c.args.marked.now in
    let corr = g.C.Correlation.corr c.args.corr.now in
    let items = c.args.items.now in
    let ws = map g.T.Weighted.weight items in
    (touched_none marked corr ws, omega arith)

pub overflow_add-sum : goal.overflow_add-sum
overflow_add-sum g c =
    let marked = g.M.Marks.is_marked c.args.marked.now in
    let corr = g.C.Correlation.corr c.args.corr.now in
    let items = c.args.items.now in
    let ws = map g.T.Weighted.weight items in
    let len : length ws ≡ length items = length-map items g.T.Weighted.weight in
    let laws = correlates corr _ (length ws) (c.requires.size ∙ sym len) (g.met.C.Correlation.symmetric c.args.corr.now) (g.met.C.Correlation.at_most_one c.args.corr.now) in
    let range = range_of g.T.Weighted.weight items c.requires.in_range in
    let fits_more : FitsSigned w128 c.marked_terms-sum.result = search rules in
    let size = marked_in_range (marked_before marked (c.loop-row.row + 1)) corr ws laws range in
    let next = c.marked_terms-sum.ensures.value in
    omega (arith, ints, size, next, c.loop-row.invariant.0)

pub loop-row-preserved : goal.loop-row-preserved
loop-row-preserved g c =
    let marked = g.M.Marks.is_marked c.args.marked.now in
    let corr = g.C.Correlation.corr c.args.corr.now in
    let items = c.args.items.now in
    let ws = map g.T.Weighted.weight items in
    let len : length ws ≡ length items = length-map items g.T.Weighted.weight in
    let laws = correlates corr _ (length ws) (c.requires.size ∙ sym len) (g.met.C.Correlation.symmetric c.args.corr.now) (g.met.C.Correlation.at_most_one c.args.corr.now) in
    let range = range_of g.T.Weighted.weight items c.requires.in_range in
    let fits_more : FitsSigned w128 c.marked_terms-sum.result = search rules in
    let size = marked_in_range (marked_before marked (c.loop-row.row + 1)) corr ws laws range in
    let next = c.marked_terms-sum.ensures.value in
    (omega (arith, ints, size, next, c.loop-row.invariant.0), count_step marked c.loop-row.row (length items) _ _ _ c.loop-row.invariant.1 c.marked_terms-sum.ensures.steps)

pub returns-clause-value : goal.returns-clause-value
returns-clause-value g c =
    let marked = g.M.Marks.is_marked c.args.marked.now in
    let corr = g.C.Correlation.corr c.args.corr.now in
    let items = c.args.items.now in
    let ws = map g.T.Weighted.weight items in
    c.loop-row.invariant.0 ∙ touched_all marked corr ws c.loop-row.row (omega (arith, length-map items g.T.Weighted.weight))

pub returns-clause-size : goal.returns-clause-size
returns-clause-size g c =
    let marked = g.M.Marks.is_marked c.args.marked.now in
    let corr = g.C.Correlation.corr c.args.corr.now in
    let items = c.args.items.now in
    let ws = map g.T.Weighted.weight items in
    let len : length ws ≡ length items = length-map items g.T.Weighted.weight in
    let laws = correlates corr _ (length ws) (c.requires.size ∙ sym len) (g.met.C.Correlation.symmetric c.args.corr.now) (g.met.C.Correlation.at_most_one c.args.corr.now) in
    let range = range_of g.T.Weighted.weight items c.requires.in_range in
    let total = c.loop-row.invariant.0 ∙ touched_all marked corr ws c.loop-row.row (omega (arith, length-map items g.T.Weighted.weight)) in
    omega (arith, ap unsigned_abs total, marked_in_range marked corr ws laws range)
