use Rattle.std.proofs.Common.{arith, rules, length, ◌+ℤ◌, FitsSigned}
use Rattle.std.proofs.lemmas.Int.{ints, to_z-of_z, fits_signed_from_abs}
use Rattle.std.specs.Int.{w128, cast_signed}
use Rattle.simm_rules.specs.declared.values.BucketMargin.{BucketMargin}
use Rattle.pair_sum.specs.PairTotal.{margins, held_sums}
use Rattle.pair_sum.proofs.Sums.{sizes_below-all, at_place-le}
use Rattle.pair_sum.proofs.Squares.{correlates}
use Rattle.pair_sum.proofs.Outer.{outer_step, outer_is, outer_total_size, held_in_range}
use Rattle.pair_sum.proofs.roots.outer_sum.Goals as goal

pub row_below-below-requires-clause-in_range : goal.row_below-below-requires-clause-in_range
row_below-below-requires-clause-in_range g c = held_in_range c.args.parts.now c.requires.held c.requires.in_range

pub overflow_add-sum : goal.overflow_add-sum
overflow_add-sum g c =
    let corr = g.C.Correlation.corr c.args.gamma.now in
    let parts = c.args.parts.now in
    let laws = correlates corr _ (length parts) c.requires.size (g.met.C.Correlation.symmetric c.args.gamma.now) (g.met.C.Correlation.at_most_one c.args.gamma.now) in
    let step = outer_step corr (margins parts) (held_sums parts) (length parts) c.loop-row.row _ c.margin_square.result c.row_below-below.result laws (at_place-le (λ part. part.s) (λ part. part.k) parts c.requires.held) (omega (arith, sizes_below-all (λ (part : BucketMargin). part.k) parts)) c.loop-row-test.true c.loop-row.invariant c.margin_square.ensures c.row_below-below.ensures.value in
    omega (arith, ints, step.first)

pub overflow_add-sum-in-loop-row : goal.overflow_add-sum-in-loop-row
overflow_add-sum-in-loop-row g c =
    let corr = g.C.Correlation.corr c.args.gamma.now in
    let parts = c.args.parts.now in
    let laws = correlates corr _ (length parts) c.requires.size (g.met.C.Correlation.symmetric c.args.gamma.now) (g.met.C.Correlation.at_most_one c.args.gamma.now) in
    let step = outer_step corr (margins parts) (held_sums parts) (length parts) c.loop-row.row _ c.margin_square.result c.row_below-below.result laws (at_place-le (λ part. part.s) (λ part. part.k) parts c.requires.held) (omega (arith, sizes_below-all (λ (part : BucketMargin). part.k) parts)) c.loop-row-test.true c.loop-row.invariant c.margin_square.ensures c.row_below-below.ensures.value in
    omega (arith, ints, step.first, step.second)

pub overflow_add-sum-in-loop-row-2 : goal.overflow_add-sum-in-loop-row-2
overflow_add-sum-in-loop-row-2 g c =
    let corr = g.C.Correlation.corr c.args.gamma.now in
    let parts = c.args.parts.now in
    let laws = correlates corr _ (length parts) c.requires.size (g.met.C.Correlation.symmetric c.args.gamma.now) (g.met.C.Correlation.at_most_one c.args.gamma.now) in
    let step = outer_step corr (margins parts) (held_sums parts) (length parts) c.loop-row.row _ c.margin_square.result c.row_below-below.result laws (at_place-le (λ part. part.s) (λ part. part.k) parts c.requires.held) (omega (arith, sizes_below-all (λ (part : BucketMargin). part.k) parts)) c.loop-row-test.true c.loop-row.invariant c.margin_square.ensures c.row_below-below.ensures.value in
    let own = c.margin_square.result in
    let below = c.row_below-below.result in
    let sum = cast_signed w128 c.loop-row.sum-bits in
    let fits_own : FitsSigned w128 own = search rules in
    let fits_below : FitsSigned w128 below = search rules in
    let fits_first : FitsSigned w128 (own +ℤ below) = fits_signed_from_abs w128 (own +ℤ below) (omega (arith, step.first)) in
    let fits_second : FitsSigned w128 (own +ℤ below +ℤ below) = fits_signed_from_abs w128 (own +ℤ below +ℤ below) (omega (arith, step.second)) in
    let fits_sum : FitsSigned w128 (sum +ℤ (own +ℤ below +ℤ below)) = fits_signed_from_abs w128 (sum +ℤ (own +ℤ below +ℤ below)) (omega (arith, step.size)) in
    simp to_z-of_z fits_sum

pub loop-row-preserved : goal.loop-row-preserved
loop-row-preserved g c =
    let corr = g.C.Correlation.corr c.args.gamma.now in
    let parts = c.args.parts.now in
    let laws = correlates corr _ (length parts) c.requires.size (g.met.C.Correlation.symmetric c.args.gamma.now) (g.met.C.Correlation.at_most_one c.args.gamma.now) in
    let step = outer_step corr (margins parts) (held_sums parts) (length parts) c.loop-row.row _ c.margin_square.result c.row_below-below.result laws (at_place-le (λ part. part.s) (λ part. part.k) parts c.requires.held) (omega (arith, sizes_below-all (λ (part : BucketMargin). part.k) parts)) c.loop-row-test.true c.loop-row.invariant c.margin_square.ensures c.row_below-below.ensures.value in
    let own = c.margin_square.result in
    let below = c.row_below-below.result in
    let sum = cast_signed w128 c.loop-row.sum-bits in
    let fits_own : FitsSigned w128 own = search rules in
    let fits_below : FitsSigned w128 below = search rules in
    let fits_first : FitsSigned w128 (own +ℤ below) = fits_signed_from_abs w128 (own +ℤ below) (omega (arith, step.first)) in
    let fits_second : FitsSigned w128 (own +ℤ below +ℤ below) = fits_signed_from_abs w128 (own +ℤ below +ℤ below) (omega (arith, step.second)) in
    let fits_sum : FitsSigned w128 (sum +ℤ (own +ℤ below +ℤ below)) = fits_signed_from_abs w128 (sum +ℤ (own +ℤ below +ℤ below)) (omega (arith, step.size)) in
    simp to_z-of_z step.value

pub returns-clause-value : goal.returns-clause-value
returns-clause-value g c = outer_is (g.C.Correlation.corr c.args.gamma.now) c.args.parts.now c.loop-row.row _ (omega arith) c.loop-row.invariant

pub returns-clause-size : goal.returns-clause-size
returns-clause-size g c =
    let corr = g.C.Correlation.corr c.args.gamma.now in
    let parts = c.args.parts.now in
    let laws = correlates corr _ (length parts) c.requires.size (g.met.C.Correlation.symmetric c.args.gamma.now) (g.met.C.Correlation.at_most_one c.args.gamma.now) in
    outer_total_size corr parts _ laws c.requires.held (outer_is corr parts c.loop-row.row _ (omega arith) c.loop-row.invariant)
