use Rattle.std.proofs.Common.{◌≡◌, ◌+ℤ◌, ◌∙◌, refl, true, false, sym, ap, map, length, FitsSigned, rules, arith}
use Rattle.std.proofs.lemmas.Int.{ints, to_z-of_z, fits_signed_from_abs}
use Rattle.std.proofs.lemmas.List.{length-map}
use Rattle.std.specs.Int.{w128}
use Rattle.pair_sum.specs.PairTotal.{term, sum_below}
use Rattle.pair_sum.specs.Marked.{beside}
use Rattle.pair_sum.proofs.Squares.{correlates}
use Rattle.pair_sum.proofs.MarkedPairs.{range_of}
use Rattle.pair_sum.proofs.MarkedSteps.{marked_step, unmarked_step}
use Rattle.pair_sum.proofs.marked.marked_terms.Goals as goal

pub overflow_add-result : goal.overflow_add-result
overflow_add-result g c =
    let marked = g.M.Marks.is_marked c.args.marked.now in
    let corr = g.C.Correlation.corr c.args.corr.now in
    let items = c.args.items.now in
    let ws = map g.T.Weighted.weight items in
    let len : length ws ≡ length items = length-map items g.T.Weighted.weight in
    let laws = correlates corr _ (length ws) (c.requires.size ∙ sym len) (g.met.C.Correlation.symmetric c.args.corr.now) (g.met.C.Correlation.at_most_one c.args.corr.now) in
    let range = range_of g.T.Weighted.weight items c.requires.in_range in
    let is_marked : marked c.args.row ≡ true = cc in
    let rest = c.row_beside-rest.result in
    let fits_rest : FitsSigned w128 rest = search rules in
    let is_rest : rest ≡ sum_below (λ j. term (beside marked corr) ws c.args.row j) (length ws) = c.row_beside-rest.ensures.value ∙ ap (sum_below (λ j. term (beside marked corr) ws c.args.row j)) (sym len) in
    let step = marked_step marked corr ws c.args.row rest (term corr ws c.args.row c.args.row) laws range (omega (arith, len)) is_marked is_rest refl in
    simp to_z-of_z (fits_signed_from_abs w128 (rest +ℤ rest) (omega (arith, step.twice)))

pub overflow_add-result-2 : goal.overflow_add-result-2
overflow_add-result-2 g c =
    let marked = g.M.Marks.is_marked c.args.marked.now in
    let corr = g.C.Correlation.corr c.args.corr.now in
    let items = c.args.items.now in
    let ws = map g.T.Weighted.weight items in
    let len : length ws ≡ length items = length-map items g.T.Weighted.weight in
    let laws = correlates corr _ (length ws) (c.requires.size ∙ sym len) (g.met.C.Correlation.symmetric c.args.corr.now) (g.met.C.Correlation.at_most_one c.args.corr.now) in
    let range = range_of g.T.Weighted.weight items c.requires.in_range in
    let is_marked : marked c.args.row ≡ true = cc in
    let rest = c.row_beside-rest.result in
    let fits_rest : FitsSigned w128 rest = search rules in
    let is_rest : rest ≡ sum_below (λ j. term (beside marked corr) ws c.args.row j) (length ws) = c.row_beside-rest.ensures.value ∙ ap (sum_below (λ j. term (beside marked corr) ws c.args.row j)) (sym len) in
    let own = c.pair_at.result in
    let fits_own : FitsSigned w128 own = search rules in
    let is_own : own ≡ term corr ws c.args.row c.args.row = c.pair_at.ensures.value in
    let step = marked_step marked corr ws c.args.row rest own laws range (omega (arith, len)) is_marked is_rest is_own in
    let fits_twice : FitsSigned w128 (rest +ℤ rest) = fits_signed_from_abs w128 (rest +ℤ rest) (omega (arith, step.twice)) in
    let fits_all : FitsSigned w128 (rest +ℤ rest +ℤ own) = fits_signed_from_abs w128 (rest +ℤ rest +ℤ own) (omega (arith, step.added)) in
    simp to_z-of_z fits_all

pub returns-clause-value : goal.returns-clause-value
returns-clause-value g c =
    let marked = g.M.Marks.is_marked c.args.marked.now in
    let corr = g.C.Correlation.corr c.args.corr.now in
    let items = c.args.items.now in
    let ws = map g.T.Weighted.weight items in
    let len : length ws ≡ length items = length-map items g.T.Weighted.weight in
    let laws = correlates corr _ (length ws) (c.requires.size ∙ sym len) (g.met.C.Correlation.symmetric c.args.corr.now) (g.met.C.Correlation.at_most_one c.args.corr.now) in
    let range = range_of g.T.Weighted.weight items c.requires.in_range in
    let is_marked : marked c.args.row ≡ true = cc in
    let rest = c.row_beside-rest.result in
    let fits_rest : FitsSigned w128 rest = search rules in
    let is_rest : rest ≡ sum_below (λ j. term (beside marked corr) ws c.args.row j) (length ws) = c.row_beside-rest.ensures.value ∙ ap (sum_below (λ j. term (beside marked corr) ws c.args.row j)) (sym len) in
    let own = c.pair_at.result in
    let fits_own : FitsSigned w128 own = search rules in
    let is_own : own ≡ term corr ws c.args.row c.args.row = c.pair_at.ensures.value in
    let step = marked_step marked corr ws c.args.row rest own laws range (omega (arith, len)) is_marked is_rest is_own in
    let fits_twice : FitsSigned w128 (rest +ℤ rest) = fits_signed_from_abs w128 (rest +ℤ rest) (omega (arith, step.twice)) in
    let fits_all : FitsSigned w128 (rest +ℤ rest +ℤ own) = fits_signed_from_abs w128 (rest +ℤ rest +ℤ own) (omega (arith, step.added)) in
    simp to_z-of_z step.value

pub returns-then-not-is_marked-clause-value : goal.returns-then-not-is_marked-clause-value
returns-then-not-is_marked-clause-value g c =
    let marked = g.M.Marks.is_marked c.args.marked.now in
    let corr = g.C.Correlation.corr c.args.corr.now in
    let items = c.args.items.now in
    let ws = map g.T.Weighted.weight items in
    let not_marked : marked c.args.row ≡ false = cc in
    let same = unmarked_step marked corr ws c.args.row not_marked in
    omega (arith, ints, same)

pub returns-clause-steps : goal.returns-clause-steps
returns-clause-steps g c =
    let marked = g.M.Marks.is_marked c.args.marked.now in
    let is_marked : marked c.args.row ≡ true = cc in
    simp is_marked (omega (arith, c.row_beside-rest.ensures.steps, c.pair_at.ensures.one_step))
