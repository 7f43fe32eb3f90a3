use Rattle.std.proofs.Common.{◌≡◌, refl, ◌∙◌, ◌+◌, ◌*◌, ◌^◌, ◌<◌, ◌≤◌, sym, ap, subst, pos, ◌≤ℤ◌, ◌<ℤ◌, unsigned_abs, FitsSigned, rules, arith}
use Rattle.std.specs.Prelude.{sum_by}
use Rattle.std.specs.Int.{w128}
use Rattle.std.proofs.lemmas.Int.{ints}
use Rattle.class_rates.proofs.MhUnits.Integers.{same128}
use Rattle.class_rates.specs.SimmRules.declared.values.BucketMargin.{BucketMargin}
use Rattle.class_rates.specs.SimmKinds.Order.{same_bucket}
use Rattle.class_rates.specs.SimmRules.Across.{outer, numbered, gamma_squared}
use Rattle.class_margin.specs.Parts.{as_parts}
use Rattle.class_margin.specs.names_delta.Combine.{margins_of}
use Rattle.class_margin.specs.names_delta.Combine.{listed_in, gamma_in}
use Rattle.class_margin.specs.curvature.Numbered.{numbered_bound}
use Rattle.class_margin.specs.curvature.Part.{part_over}
use Rattle.class_margin.proofs.curvature.Splits.{split_sizes, all_numbered, squared-symmetric, squared-small, gamma_small, numbered_root}
use Rattle.class_margin.proofs.curvature.Lambdas.{passed}
use Rattle.class_margin.proofs.curvature.Totals.{part_is, bound_from}
use Rattle.class_margin.proofs.curvature.numbered_parts.numbered_part.Goals as goal

pub invariant_of-gamma : goal.invariant_of-gamma
invariant_of-gamma c =
    let gamma = gamma_in c.args.params.now c.args.class in
    let places = c.in_ok-numbered.numbered.places.items in
    record {
      small = λ i j p q. gamma_small gamma places c.facts.ensures i j;
      sized = refl;
      symmetric = λ i j p q. squared-symmetric gamma places c.facts.ensures i j;
      at_most_one = λ i j p q. squared-small gamma places c.facts.ensures i j;
    }

pub outer_root-root-requires-clause-not_negative : goal.outer_root-root-requires-clause-not_negative
outer_root-root-requires-clause-not_negative c =
    let ps = c.args.parts.now in
    let sized = c.requires.sized in
    let made : c.as_slice.result.now ≡ margins_of (numbered (as_parts ps)) = c.as_slice.ensures.value ∙ c.in_ok-numbered.ensures.margins in
    all_numbered (λ m. pos 0 ≤ℤ m.k) ps c.as_slice.result.now made sized.not_negative

pub outer_root-root-requires-clause-held : goal.outer_root-root-requires-clause-held
outer_root-root-requires-clause-held c =
    let ps = c.args.parts.now in
    let sized = c.requires.sized in
    let made : c.as_slice.result.now ≡ margins_of (numbered (as_parts ps)) = c.as_slice.ensures.value ∙ c.in_ok-numbered.ensures.margins in
    all_numbered (λ m. unsigned_abs m.s ≤ unsigned_abs m.k) ps c.as_slice.result.now made sized.held

pub outer_root-root-requires-clause-in_range : goal.outer_root-root-requires-clause-in_range
outer_root-root-requires-clause-in_range c =
    let ps = c.args.parts.now in
    let sized = c.requires.sized in
    let made : c.as_slice.result.now ≡ margins_of (numbered (as_parts ps)) = c.as_slice.ensures.value ∙ c.in_ok-numbered.ensures.margins in
    let small : sum_by (λ m. unsigned_abs m.k) c.as_slice.result.now < 84 * 10 ^ 14 = subst (λ ms. sum_by (λ (m : BucketMargin). unsigned_abs m.k) ms < 84 * 10 ^ 14) (sym made) (omega (arith, split_sizes (λ m. unsigned_abs m.k) ps, sized.margins)) in
    small

pub part_over-requires-clause-summed : goal.part_over-requires-clause-summed
part_over-requires-clause-summed c =
    let ps = c.args.parts.now in
    let sized = c.requires.sized in
    let made : c.as_slice.result.now ≡ margins_of (numbered (as_parts ps)) = c.as_slice.ensures.value ∙ c.in_ok-numbered.ensures.margins in
    let small : sum_by (λ m. unsigned_abs m.k) c.as_slice.result.now < 84 * 10 ^ 14 = subst (λ ms. sum_by (λ (m : BucketMargin). unsigned_abs m.k) ms < 84 * 10 ^ 14) (sym made) (omega (arith, split_sizes (λ m. unsigned_abs m.k) ps, sized.margins)) in
    let root = c.outer_root-root.result in
    let root_fits : FitsSigned w128 root = search rules in
    let root_is : passed root ≡ root = same128 root root_fits in
    let again : c.as_slice-2.result.now ≡ margins_of (numbered (as_parts ps)) = c.as_slice-2.ensures.value ∙ c.in_ok-numbered.ensures.margins in
    all_numbered (λ m. pos (unsigned_abs m.sum) ≤ℤ m.gross) ps c.as_slice-2.result.now again sized.summed

pub part_over-requires-clause-in_range : goal.part_over-requires-clause-in_range
part_over-requires-clause-in_range c =
    let ps = c.args.parts.now in
    let sized = c.requires.sized in
    let made : c.as_slice.result.now ≡ margins_of (numbered (as_parts ps)) = c.as_slice.ensures.value ∙ c.in_ok-numbered.ensures.margins in
    let small : sum_by (λ m. unsigned_abs m.k) c.as_slice.result.now < 84 * 10 ^ 14 = subst (λ ms. sum_by (λ (m : BucketMargin). unsigned_abs m.k) ms < 84 * 10 ^ 14) (sym made) (omega (arith, split_sizes (λ m. unsigned_abs m.k) ps, sized.margins)) in
    let root = c.outer_root-root.result in
    let root_fits : FitsSigned w128 root = search rules in
    let root_is : passed root ≡ root = same128 root root_fits in
    let again : c.as_slice-2.result.now ≡ margins_of (numbered (as_parts ps)) = c.as_slice-2.ensures.value ∙ c.in_ok-numbered.ensures.margins in
    subst (λ ms. sum_by (λ (m : BucketMargin). unsigned_abs m.gross) ms < 84 * 10 ^ 14) (sym again) (omega (arith, split_sizes (λ m. unsigned_abs m.gross) ps, sized.gross))

pub part_over-requires-clause-root_high : goal.part_over-requires-clause-root_high
part_over-requires-clause-root_high c =
    let ps = c.args.parts.now in
    let sized = c.requires.sized in
    let made : c.as_slice.result.now ≡ margins_of (numbered (as_parts ps)) = c.as_slice.ensures.value ∙ c.in_ok-numbered.ensures.margins in
    let small : sum_by (λ m. unsigned_abs m.k) c.as_slice.result.now < 84 * 10 ^ 14 = subst (λ ms. sum_by (λ (m : BucketMargin). unsigned_abs m.k) ms < 84 * 10 ^ 14) (sym made) (omega (arith, split_sizes (λ m. unsigned_abs m.k) ps, sized.margins)) in
    let root = c.outer_root-root.result in
    let root_fits : FitsSigned w128 root = search rules in
    let root_is : passed root ≡ root = same128 root root_fits in
    subst (λ z. z <ℤ pos (84 * 10 ^ 14)) (sym root_is) (omega (arith, ints, c.outer_root-root.ensures.size, small))

pub returns-clause-value : goal.returns-clause-value
returns-clause-value c =
    let ps = c.args.parts.now in
    let sized = c.requires.sized in
    let made : c.as_slice.result.now ≡ margins_of (numbered (as_parts ps)) = c.as_slice.ensures.value ∙ c.in_ok-numbered.ensures.margins in
    let small : sum_by (λ m. unsigned_abs m.k) c.as_slice.result.now < 84 * 10 ^ 14 = subst (λ ms. sum_by (λ (m : BucketMargin). unsigned_abs m.k) ms < 84 * 10 ^ 14) (sym made) (omega (arith, split_sizes (λ m. unsigned_abs m.k) ps, sized.margins)) in
    let root = c.outer_root-root.result in
    let root_fits : FitsSigned w128 root = search rules in
    let root_is : passed root ≡ root = same128 root root_fits in
    let again : c.as_slice-2.result.now ≡ margins_of (numbered (as_parts ps)) = c.as_slice-2.ensures.value ∙ c.in_ok-numbered.ensures.margins in
    let part = c.part_over.result in
    let fits : FitsSigned w128 part = search rules in
    same128 part fits ∙ c.part_over.ensures.value ∙ ap (λ z. part_over z c.as_slice-2.result.now (passed root)) c.lambda_base.ensures.value
    ∙ ap (λ ms. part_over c.args.params.now.lambda_base ms (passed root)) again
    ∙ ap (part_over c.args.params.now.lambda_base (margins_of (numbered (as_parts ps))))
    (root_is ∙ c.outer_root-root.ensures.value ∙ numbered_root (listed_in c.args.params.now c.args.class) (gamma_in c.args.params.now c.args.class) ps c.requires.ascends c.in_ok-numbered.numbered.places.items c.in_ok-numbered.ensures.places c.as_slice.result.now made)
    ∙ part_is c.args.params.now.lambda_base (numbered (as_parts ps)) (outer same_bucket (gamma_squared (listed_in c.args.params.now c.args.class) (gamma_in c.args.params.now c.args.class)) (numbered (as_parts ps)))

pub returns-clause-low : goal.returns-clause-low
returns-clause-low c =
    let ps = c.args.parts.now in
    let sized = c.requires.sized in
    let made : c.as_slice.result.now ≡ margins_of (numbered (as_parts ps)) = c.as_slice.ensures.value ∙ c.in_ok-numbered.ensures.margins in
    let small : sum_by (λ m. unsigned_abs m.k) c.as_slice.result.now < 84 * 10 ^ 14 = subst (λ ms. sum_by (λ (m : BucketMargin). unsigned_abs m.k) ms < 84 * 10 ^ 14) (sym made) (omega (arith, split_sizes (λ m. unsigned_abs m.k) ps, sized.margins)) in
    let root = c.outer_root-root.result in
    let root_fits : FitsSigned w128 root = search rules in
    let root_is : passed root ≡ root = same128 root root_fits in
    let again : c.as_slice-2.result.now ≡ margins_of (numbered (as_parts ps)) = c.as_slice-2.ensures.value ∙ c.in_ok-numbered.ensures.margins in
    let part = c.part_over.result in
    let fits : FitsSigned w128 part = search rules in
    subst (λ z. pos 0 ≤ℤ z) (sym (same128 part fits)) c.part_over.ensures.low

pub returns-clause-size : goal.returns-clause-size
returns-clause-size c =
    let ps = c.args.parts.now in
    let sized = c.requires.sized in
    let made : c.as_slice.result.now ≡ margins_of (numbered (as_parts ps)) = c.as_slice.ensures.value ∙ c.in_ok-numbered.ensures.margins in
    let small : sum_by (λ m. unsigned_abs m.k) c.as_slice.result.now < 84 * 10 ^ 14 = subst (λ ms. sum_by (λ (m : BucketMargin). unsigned_abs m.k) ms < 84 * 10 ^ 14) (sym made) (omega (arith, split_sizes (λ m. unsigned_abs m.k) ps, sized.margins)) in
    let root = c.outer_root-root.result in
    let root_fits : FitsSigned w128 root = search rules in
    let root_is : passed root ≡ root = same128 root root_fits in
    let again : c.as_slice-2.result.now ≡ margins_of (numbered (as_parts ps)) = c.as_slice-2.ensures.value ∙ c.in_ok-numbered.ensures.margins in
    let part = c.part_over.result in
    let fits : FitsSigned w128 part = search rules in
    subst (λ z. z ≤ℤ pos (numbered_bound ps)) (sym (same128 part fits))
    (bound_from (margins_of (numbered (as_parts ps))) c.as_slice.result.now c.as_slice-2.result.now root part made again c.outer_root-root.ensures.not_negative c.outer_root-root.ensures.size
    (subst (λ z. part ≤ℤ pos (sum_by (λ (m : BucketMargin). unsigned_abs m.gross) c.as_slice-2.result.now + 10 * unsigned_abs z)) root_is c.part_over.ensures.size))
