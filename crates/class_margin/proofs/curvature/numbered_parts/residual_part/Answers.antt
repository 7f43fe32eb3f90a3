use Rattle.std.proofs.Common.{◌≡◌, ◌∙◌, ◌+◌, ◌*◌, ◌^◌, ◌<◌, sym, ap, subst, pos, ◌≤ℤ◌, ◌<ℤ◌, unsigned_abs, FitsSigned, rules, arith}
use Rattle.std.specs.Prelude.{sum_by}
use Rattle.std.specs.Int.{w128}
use Rattle.std.proofs.lemmas.Int.{ints}
use Rattle.class_rates.proofs.MhUnits.Integers.{same128}
use Rattle.class_rates.specs.SimmRules.declared.values.BucketMargin.{BucketMargin}
use Rattle.class_rates.specs.SimmRules.Sums.{total_by}
use Rattle.class_rates.specs.SimmRules.Across.{residual}
use Rattle.class_margin.specs.Parts.{as_parts}
use Rattle.class_margin.specs.names_delta.Combine.{margins_of}
use Rattle.class_margin.specs.curvature.Numbered.{residual_bound}
use Rattle.class_margin.specs.curvature.Part.{margin_over, part_over}
use Rattle.class_margin.proofs.curvature.Splits.{split_sizes, all_residual, by_residual}
use Rattle.class_margin.proofs.curvature.Lambdas.{passed}
use Rattle.class_margin.proofs.curvature.Totals.{part_is, bound_from, margins_low, margins_are}
use Rattle.class_margin.proofs.curvature.numbered_parts.residual_part.Goals as goal

pub margin_over-root-requires : goal.margin_over-root-requires
margin_over-root-requires c =
    let ps = c.args.parts.now in
    let sized = c.requires in
    let made : c.as_slice.result.now ≡ margins_of (residual (as_parts ps)) = c.as_slice.ensures.value ∙ c.in_ok-values.ensures in
    let small : sum_by (λ m. unsigned_abs m.k) c.as_slice.result.now < 84 * 10 ^ 14 = subst (λ ms. sum_by (λ (m : BucketMargin). unsigned_abs m.k) ms < 84 * 10 ^ 14) (sym made) (omega (arith, split_sizes (λ m. unsigned_abs m.k) ps, sized.margins)) in
    small

pub part_over-requires-clause-summed : goal.part_over-requires-clause-summed
part_over-requires-clause-summed c =
    let ps = c.args.parts.now in
    let sized = c.requires in
    let made : c.as_slice.result.now ≡ margins_of (residual (as_parts ps)) = c.as_slice.ensures.value ∙ c.in_ok-values.ensures in
    let small : sum_by (λ m. unsigned_abs m.k) c.as_slice.result.now < 84 * 10 ^ 14 = subst (λ ms. sum_by (λ (m : BucketMargin). unsigned_abs m.k) ms < 84 * 10 ^ 14) (sym made) (omega (arith, split_sizes (λ m. unsigned_abs m.k) ps, sized.margins)) in
    let root = c.margin_over-root.result in
    let root_fits : FitsSigned w128 root = search rules in
    let root_is : passed root ≡ root = same128 root root_fits in
    let low : pos 0 ≤ℤ root = subst (λ z. pos 0 ≤ℤ z) (sym c.margin_over-root.ensures.value) (margins_low c.as_slice.result.now (by_residual (λ m. pos 0 ≤ℤ m.k) ps c.as_slice.result.now made sized.not_negative)) in
    let again : c.as_slice-2.result.now ≡ margins_of (residual (as_parts ps)) = c.as_slice-2.ensures.value ∙ c.in_ok-values.ensures in
    all_residual (λ m. pos (unsigned_abs m.sum) ≤ℤ m.gross) ps c.as_slice-2.result.now again sized.summed

pub part_over-requires-clause-in_range : goal.part_over-requires-clause-in_range
part_over-requires-clause-in_range c =
    let ps = c.args.parts.now in
    let sized = c.requires in
    let made : c.as_slice.result.now ≡ margins_of (residual (as_parts ps)) = c.as_slice.ensures.value ∙ c.in_ok-values.ensures in
    let small : sum_by (λ m. unsigned_abs m.k) c.as_slice.result.now < 84 * 10 ^ 14 = subst (λ ms. sum_by (λ (m : BucketMargin). unsigned_abs m.k) ms < 84 * 10 ^ 14) (sym made) (omega (arith, split_sizes (λ m. unsigned_abs m.k) ps, sized.margins)) in
    let root = c.margin_over-root.result in
    let root_fits : FitsSigned w128 root = search rules in
    let root_is : passed root ≡ root = same128 root root_fits in
    let low : pos 0 ≤ℤ root = subst (λ z. pos 0 ≤ℤ z) (sym c.margin_over-root.ensures.value) (margins_low c.as_slice.result.now (by_residual (λ m. pos 0 ≤ℤ m.k) ps c.as_slice.result.now made sized.not_negative)) in
    let again : c.as_slice-2.result.now ≡ margins_of (residual (as_parts ps)) = c.as_slice-2.ensures.value ∙ c.in_ok-values.ensures in
    subst (λ ms. sum_by (λ (m : BucketMargin). unsigned_abs m.gross) ms < 84 * 10 ^ 14) (sym again) (omega (arith, split_sizes (λ m. unsigned_abs m.gross) ps, sized.gross))

pub part_over-requires-clause-root_low : goal.part_over-requires-clause-root_low
part_over-requires-clause-root_low c =
    let ps = c.args.parts.now in
    let sized = c.requires in
    let made : c.as_slice.result.now ≡ margins_of (residual (as_parts ps)) = c.as_slice.ensures.value ∙ c.in_ok-values.ensures in
    let small : sum_by (λ m. unsigned_abs m.k) c.as_slice.result.now < 84 * 10 ^ 14 = subst (λ ms. sum_by (λ (m : BucketMargin). unsigned_abs m.k) ms < 84 * 10 ^ 14) (sym made) (omega (arith, split_sizes (λ m. unsigned_abs m.k) ps, sized.margins)) in
    let root = c.margin_over-root.result in
    let root_fits : FitsSigned w128 root = search rules in
    let root_is : passed root ≡ root = same128 root root_fits in
    let low : pos 0 ≤ℤ root = subst (λ z. pos 0 ≤ℤ z) (sym c.margin_over-root.ensures.value) (margins_low c.as_slice.result.now (by_residual (λ m. pos 0 ≤ℤ m.k) ps c.as_slice.result.now made sized.not_negative)) in
    subst (λ z. pos 0 ≤ℤ z) (sym root_is) low

pub part_over-requires-clause-root_high : goal.part_over-requires-clause-root_high
part_over-requires-clause-root_high c =
    let ps = c.args.parts.now in
    let sized = c.requires in
    let made : c.as_slice.result.now ≡ margins_of (residual (as_parts ps)) = c.as_slice.ensures.value ∙ c.in_ok-values.ensures in
    let small : sum_by (λ m. unsigned_abs m.k) c.as_slice.result.now < 84 * 10 ^ 14 = subst (λ ms. sum_by (λ (m : BucketMargin). unsigned_abs m.k) ms < 84 * 10 ^ 14) (sym made) (omega (arith, split_sizes (λ m. unsigned_abs m.k) ps, sized.margins)) in
    let root = c.margin_over-root.result in
    let root_fits : FitsSigned w128 root = search rules in
    let root_is : passed root ≡ root = same128 root root_fits in
    let low : pos 0 ≤ℤ root = subst (λ z. pos 0 ≤ℤ z) (sym c.margin_over-root.ensures.value) (margins_low c.as_slice.result.now (by_residual (λ m. pos 0 ≤ℤ m.k) ps c.as_slice.result.now made sized.not_negative)) in
    subst (λ z. z <ℤ pos (84 * 10 ^ 14)) (sym root_is) (omega (arith, ints, low, c.margin_over-root.ensures.size, small))

pub returns-clause-value : goal.returns-clause-value
returns-clause-value c =
    let ps = c.args.parts.now in
    let sized = c.requires in
    let made : c.as_slice.result.now ≡ margins_of (residual (as_parts ps)) = c.as_slice.ensures.value ∙ c.in_ok-values.ensures in
    let small : sum_by (λ m. unsigned_abs m.k) c.as_slice.result.now < 84 * 10 ^ 14 = subst (λ ms. sum_by (λ (m : BucketMargin). unsigned_abs m.k) ms < 84 * 10 ^ 14) (sym made) (omega (arith, split_sizes (λ m. unsigned_abs m.k) ps, sized.margins)) in
    let root = c.margin_over-root.result in
    let root_fits : FitsSigned w128 root = search rules in
    let root_is : passed root ≡ root = same128 root root_fits in
    let low : pos 0 ≤ℤ root = subst (λ z. pos 0 ≤ℤ z) (sym c.margin_over-root.ensures.value) (margins_low c.as_slice.result.now (by_residual (λ m. pos 0 ≤ℤ m.k) ps c.as_slice.result.now made sized.not_negative)) in
    let again : c.as_slice-2.result.now ≡ margins_of (residual (as_parts ps)) = c.as_slice-2.ensures.value ∙ c.in_ok-values.ensures in
    let part = c.part_over.result in
    let fits : FitsSigned w128 part = search rules in
    same128 part fits ∙ c.part_over.ensures.value ∙ ap (λ z. part_over z c.as_slice-2.result.now (passed root)) c.lambda_base.ensures.value
    ∙ ap (λ ms. part_over c.args.params.now.lambda_base ms (passed root)) again
    ∙ ap (part_over c.args.params.now.lambda_base (margins_of (residual (as_parts ps)))) (root_is ∙ c.margin_over-root.ensures.value ∙ ap margin_over made ∙ margins_are (residual (as_parts ps)))
    ∙ part_is c.args.params.now.lambda_base (residual (as_parts ps)) (total_by (λ b. (b.value).k) (residual (as_parts ps)))

pub returns-clause-low : goal.returns-clause-low
returns-clause-low c =
    let ps = c.args.parts.now in
    let sized = c.requires in
    let made : c.as_slice.result.now ≡ margins_of (residual (as_parts ps)) = c.as_slice.ensures.value ∙ c.in_ok-values.ensures in
    let small : sum_by (λ m. unsigned_abs m.k) c.as_slice.result.now < 84 * 10 ^ 14 = subst (λ ms. sum_by (λ (m : BucketMargin). unsigned_abs m.k) ms < 84 * 10 ^ 14) (sym made) (omega (arith, split_sizes (λ m. unsigned_abs m.k) ps, sized.margins)) in
    let root = c.margin_over-root.result in
    let root_fits : FitsSigned w128 root = search rules in
    let root_is : passed root ≡ root = same128 root root_fits in
    let low : pos 0 ≤ℤ root = subst (λ z. pos 0 ≤ℤ z) (sym c.margin_over-root.ensures.value) (margins_low c.as_slice.result.now (by_residual (λ m. pos 0 ≤ℤ m.k) ps c.as_slice.result.now made sized.not_negative)) in
    let again : c.as_slice-2.result.now ≡ margins_of (residual (as_parts ps)) = c.as_slice-2.ensures.value ∙ c.in_ok-values.ensures in
    let part = c.part_over.result in
    let fits : FitsSigned w128 part = search rules in
    subst (λ z. pos 0 ≤ℤ z) (sym (same128 part fits)) c.part_over.ensures.low

pub returns-clause-size : goal.returns-clause-size
returns-clause-size c =
    let ps = c.args.parts.now in
    let sized = c.requires in
    let made : c.as_slice.result.now ≡ margins_of (residual (as_parts ps)) = c.as_slice.ensures.value ∙ c.in_ok-values.ensures in
    let small : sum_by (λ m. unsigned_abs m.k) c.as_slice.result.now < 84 * 10 ^ 14 = subst (λ ms. sum_by (λ (m : BucketMargin). unsigned_abs m.k) ms < 84 * 10 ^ 14) (sym made) (omega (arith, split_sizes (λ m. unsigned_abs m.k) ps, sized.margins)) in
    let root = c.margin_over-root.result in
    let root_fits : FitsSigned w128 root = search rules in
    let root_is : passed root ≡ root = same128 root root_fits in
    let low : pos 0 ≤ℤ root = subst (λ z. pos 0 ≤ℤ z) (sym c.margin_over-root.ensures.value) (margins_low c.as_slice.result.now (by_residual (λ m. pos 0 ≤ℤ m.k) ps c.as_slice.result.now made sized.not_negative)) in
    let again : c.as_slice-2.result.now ≡ margins_of (residual (as_parts ps)) = c.as_slice-2.ensures.value ∙ c.in_ok-values.ensures in
    let part = c.part_over.result in
    let fits : FitsSigned w128 part = search rules in
    subst (λ z. z ≤ℤ pos (residual_bound ps)) (sym (same128 part fits))
    (bound_from (margins_of (residual (as_parts ps))) c.as_slice.result.now c.as_slice-2.result.now root part made again low (omega (arith, ints, low, c.margin_over-root.ensures.size))
    (subst (λ z. part ≤ℤ pos (sum_by (λ (m : BucketMargin). unsigned_abs m.gross) c.as_slice-2.result.now + 10 * unsigned_abs z)) root_is c.part_over.ensures.size))
