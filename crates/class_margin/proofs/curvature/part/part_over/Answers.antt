use Rattle.std.proofs.Common.{◌≡◌, ◌∙◌, ◌+◌, sym, subst, ap, pos, ◌+ℤ◌, ◌≤ℤ◌, ◌<ℤ◌, ◌*◌, ◌^◌, unsigned_abs, FitsSigned, rules, arith}
use Rattle.std.specs.Prelude.{sum_by}
use Rattle.std.specs.Int.{w128, int_max}
use Rattle.std.proofs.lemmas.Int.{ints}
use Rattle.class_rates.proofs.MhUnits.Integers.{same128}
use Rattle.class_rates.specs.SimmRules.declared.values.BucketMargin.{BucketMargin}
use Rattle.class_margin.specs.curvature.Part.{gross_over, sum_over}
use Rattle.class_margin.proofs.curvature.Lambdas.{passed}
use Rattle.class_margin.proofs.curvature.Parts.{some_gross, both_passed, part_passed}
use Rattle.class_margin.proofs.curvature.Totals.{sums_small, summed, gross_size, gross_below, sum_fits, part_sum}
use Rattle.class_margin.proofs.curvature.part.part_over.Goals as goal

pub sum_over-sum-requires : goal.sum_over-sum-requires
sum_over-sum-requires c = sums_small c.args.values.now c.requires.summed c.requires.in_range

pub lambda-requires-clause-some : goal.lambda-requires-clause-some
lambda-requires-clause-some c =
    let values = c.args.values.now in
    let s = c.sum_over-sum.result in
    let g = c.gross_over-gross.result in
    let gross_fits : FitsSigned w128 g = search rules in
    let within = summed values c.requires.summed c.requires.in_range in
    let low : pos 0 ≤ℤ gross_over values = omega (arith, ints, within) in
    let some = some_gross g (gross_over values) c.if-gross-eq0.false c.gross_over-gross.ensures low in
    subst (λ z. pos 0 <ℤ z) (sym (same128 g gross_fits ∙ c.gross_over-gross.ensures)) some

pub lambda-requires-clause-in_range : goal.lambda-requires-clause-in_range
lambda-requires-clause-in_range c =
    let fits : FitsSigned w128 c.gross_over-gross.result = search rules in
    subst (λ z. z <ℤ pos (84 * 10 ^ 14)) (sym (same128 c.gross_over-gross.result fits ∙ c.gross_over-gross.ensures)) (gross_below c.args.values.now c.requires.summed c.requires.in_range)

pub lambda-requires-clause-summed : goal.lambda-requires-clause-summed
lambda-requires-clause-summed c =
    let values = c.args.values.now in
    let g = c.gross_over-gross.result in
    let s = c.sum_over-sum.result in
    let fits : FitsSigned w128 g = search rules in
    let own : FitsSigned w128 s = search rules in
    subst (λ z. pos (unsigned_abs z) ≤ℤ passed g) (sym (same128 s own ∙ c.sum_over-sum.ensures))
    (subst (λ z. pos (unsigned_abs (sum_over values)) ≤ℤ z) (sym (same128 g fits ∙ c.gross_over-gross.ensures)) (summed values c.requires.summed c.requires.in_range))

pub overflow_add-sum : goal.overflow_add-sum
overflow_add-sum c =
    let values = c.args.values.now in
    let s = c.sum_over-sum.result in
    let g = c.gross_over-gross.result in
    let gross_fits : FitsSigned w128 g = search rules in
    let within = summed values c.requires.summed c.requires.in_range in
    let low : pos 0 ≤ℤ gross_over values = omega (arith, ints, within) in
    let some = some_gross g (gross_over values) c.if-gross-eq0.false c.gross_over-gross.ensures low in
    let root = c.args.root in
    let l = c.lambda.result in
    let r = c.scaled_root-scaled.result in
    let lambda_fits : FitsSigned w128 l = search rules in
    let scaled_fits : FitsSigned w128 r = search rules in
    let sum_small = sum_fits values c.requires.summed c.requires.in_range in
    let high : r ≤ℤ pos (10 * unsigned_abs root) = subst (λ z. r ≤ℤ pos (10 * unsigned_abs z)) (same128 root c.ranges.root) c.scaled_root-scaled.ensures.high in
    let n = sum_by (λ (b : BucketMargin). unsigned_abs b.gross) values in
    let part = part_sum (sum_over values) (gross_over values) r root n within (gross_size values c.requires.summed c.requires.in_range) c.requires.in_range c.scaled_root-scaled.ensures.low high c.requires.root_low c.requires.root_high in
    subst (FitsSigned w128) (sym (both_passed c.args.base.0 (sum_over values) (gross_over values) root s g l r c.sum_over-sum.ensures c.gross_over-gross.ensures sum_small gross_fits c.ranges.root lambda_fits scaled_fits c.lambda.ensures.value c.scaled_root-scaled.ensures.value)) part.fits

pub returns-clause-value : goal.returns-clause-value
returns-clause-value c =
    let values = c.args.values.now in
    let s = c.sum_over-sum.result in
    let g = c.gross_over-gross.result in
    let gross_fits : FitsSigned w128 g = search rules in
    let within = summed values c.requires.summed c.requires.in_range in
    let low : pos 0 ≤ℤ gross_over values = omega (arith, ints, within) in
    let some = some_gross g (gross_over values) c.if-gross-eq0.false c.gross_over-gross.ensures low in
    let root = c.args.root in
    let l = c.lambda.result in
    let r = c.scaled_root-scaled.result in
    let lambda_fits : FitsSigned w128 l = search rules in
    let scaled_fits : FitsSigned w128 r = search rules in
    let sum_small = sum_fits values c.requires.summed c.requires.in_range in
    let high : r ≤ℤ pos (10 * unsigned_abs root) = subst (λ z. r ≤ℤ pos (10 * unsigned_abs z)) (same128 root c.ranges.root) c.scaled_root-scaled.ensures.high in
    let n = sum_by (λ (b : BucketMargin). unsigned_abs b.gross) values in
    let part = part_sum (sum_over values) (gross_over values) r root n within (gross_size values c.requires.summed c.requires.in_range) c.requires.in_range c.scaled_root-scaled.ensures.low high c.requires.root_low c.requires.root_high in
    let fits : FitsSigned w128 c.max.result = search rules in
    same128 c.max.result fits ∙ c.max.ensures.value ∙ part_passed c.args.base.0 (sum_over values) (gross_over values) root s g l r c.sum_over-sum.ensures c.gross_over-gross.ensures sum_small gross_fits c.ranges.root lambda_fits scaled_fits c.lambda.ensures.value c.scaled_root-scaled.ensures.value part.fits some

pub returns-clause-size : goal.returns-clause-size
returns-clause-size c =
    let values = c.args.values.now in
    let s = c.sum_over-sum.result in
    let g = c.gross_over-gross.result in
    let gross_fits : FitsSigned w128 g = search rules in
    let within = summed values c.requires.summed c.requires.in_range in
    let low : pos 0 ≤ℤ gross_over values = omega (arith, ints, within) in
    let some = some_gross g (gross_over values) c.if-gross-eq0.false c.gross_over-gross.ensures low in
    let root = c.args.root in
    let l = c.lambda.result in
    let r = c.scaled_root-scaled.result in
    let lambda_fits : FitsSigned w128 l = search rules in
    let scaled_fits : FitsSigned w128 r = search rules in
    let sum_small = sum_fits values c.requires.summed c.requires.in_range in
    let high : r ≤ℤ pos (10 * unsigned_abs root) = subst (λ z. r ≤ℤ pos (10 * unsigned_abs z)) (same128 root c.ranges.root) c.scaled_root-scaled.ensures.high in
    let n = sum_by (λ (b : BucketMargin). unsigned_abs b.gross) values in
    let part = part_sum (sum_over values) (gross_over values) r root n within (gross_size values c.requires.summed c.requires.in_range) c.requires.in_range c.scaled_root-scaled.ensures.low high c.requires.root_low c.requires.root_high in
    let fits : FitsSigned w128 c.max.result = search rules in
    let is : passed c.max.result ≡ int_max (sum_over values +ℤ r) (pos 0) =
    same128 c.max.result fits ∙ c.max.ensures.value ∙ ap (λ z. int_max (passed z) (pos 0)) (both_passed c.args.base.0 (sum_over values) (gross_over values) root s g l r c.sum_over-sum.ensures c.gross_over-gross.ensures sum_small gross_fits c.ranges.root lambda_fits scaled_fits c.lambda.ensures.value c.scaled_root-scaled.ensures.value) ∙ ap (λ z. int_max z (pos 0)) (same128 (sum_over values +ℤ r) part.fits) in
    subst (λ z. z ≤ℤ pos (n + 10 * unsigned_abs root)) (sym is) part.size
