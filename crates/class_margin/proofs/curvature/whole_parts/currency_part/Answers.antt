use Rattle.std.proofs.Common.{◌≡◌, ◌∙◌, ◌+◌, ◌*◌, ◌^◌, ◌<◌, ◌≤◌, map, refl, sym, ap, subst, pos, ◌≤ℤ◌, ◌<ℤ◌, unsigned_abs, FitsSigned, rules, arith}
use Rattle.std.specs.Prelude.{sum_by}
use Rattle.std.specs.Int.{w128}
use Rattle.std.proofs.lemmas.Int.{ints}
use Rattle.class_rates.proofs.MhUnits.Integers.{same128}
use Rattle.class_rates.specs.SimmRules.declared.values.BucketMargin.{BucketMargin}
use Rattle.class_rates.specs.SimmKinds.Order.{same_name}
use Rattle.class_rates.specs.SimmRules.Across.{outer}
use Rattle.class_rates.specs.SimmRules.Bucket.{combined}
use Rattle.class_rates.specs.SimmRules.Lookups.{six}
use Rattle.class_rates.proofs.MhUnits.Roundings.{correlation_size}
use Rattle.class_margin.specs.Parts.{as_parts}
use Rattle.class_margin.specs.curvature.Combine.{gamma_across, gross_size, margins_size}
use Rattle.class_margin.specs.curvature.Part.{part_over}
use Rattle.class_margin.proofs.curvature.Currencies.{values_of, values_are, all_values, values_size, currencies_root, even-symmetric, even-small}
use Rattle.class_margin.proofs.curvature.Lambdas.{passed}
use Rattle.class_margin.proofs.curvature.Totals.{part_is, bound_from}
use Rattle.class_margin.proofs.curvature.whole_parts.currency_part.Goals as goal

pub invariant_of-gamma : goal.invariant_of-gamma
invariant_of-gamma c =
    let between = c.in_millionths-between.result.0 in
    let small = c.in_millionths-between.ensures.size in
    let squared = correlation_size between between small small in
    record {
      small = λ i j p q. small;
      sized = refl;
      symmetric = λ i j p q. even-symmetric (combined between between) i j;
      at_most_one = λ i j p q. even-small (combined between between) squared i j;
    }

pub outer_root-root-requires-clause-not_negative : goal.outer_root-root-requires-clause-not_negative
outer_root-root-requires-clause-not_negative c =
    let ps = c.args.parts.now in
    let sized = c.requires.sized in
    let p = c.args.params.now in
    let made : c.as_slice.result.now ≡ values_of ps = c.as_slice.ensures.value ∙ c.in_ok-values.ensures in
    let small : sum_by (λ m. unsigned_abs m.k) c.as_slice.result.now < 84 * 10 ^ 14 = omega (arith, values_size (λ m. unsigned_abs m.k) ps c.as_slice.result.now made, sized.margins) in
    all_values (λ m. pos 0 ≤ℤ m.k) ps c.as_slice.result.now made sized.not_negative

pub outer_root-root-requires-clause-held : goal.outer_root-root-requires-clause-held
outer_root-root-requires-clause-held c =
    let ps = c.args.parts.now in
    let sized = c.requires.sized in
    let p = c.args.params.now in
    let made : c.as_slice.result.now ≡ values_of ps = c.as_slice.ensures.value ∙ c.in_ok-values.ensures in
    let small : sum_by (λ m. unsigned_abs m.k) c.as_slice.result.now < 84 * 10 ^ 14 = omega (arith, values_size (λ m. unsigned_abs m.k) ps c.as_slice.result.now made, sized.margins) in
    all_values (λ m. unsigned_abs m.s ≤ unsigned_abs m.k) ps c.as_slice.result.now made sized.held

pub outer_root-root-requires-clause-in_range : goal.outer_root-root-requires-clause-in_range
outer_root-root-requires-clause-in_range c =
    let ps = c.args.parts.now in
    let sized = c.requires.sized in
    let p = c.args.params.now in
    let made : c.as_slice.result.now ≡ values_of ps = c.as_slice.ensures.value ∙ c.in_ok-values.ensures in
    let small : sum_by (λ m. unsigned_abs m.k) c.as_slice.result.now < 84 * 10 ^ 14 = omega (arith, values_size (λ m. unsigned_abs m.k) ps c.as_slice.result.now made, sized.margins) in
    small

pub part_over-requires-clause-summed : goal.part_over-requires-clause-summed
part_over-requires-clause-summed c =
    let ps = c.args.parts.now in
    let sized = c.requires.sized in
    let p = c.args.params.now in
    let made : c.as_slice.result.now ≡ values_of ps = c.as_slice.ensures.value ∙ c.in_ok-values.ensures in
    let small : sum_by (λ m. unsigned_abs m.k) c.as_slice.result.now < 84 * 10 ^ 14 = omega (arith, values_size (λ m. unsigned_abs m.k) ps c.as_slice.result.now made, sized.margins) in
    let root = c.outer_root-root.result in
    let root_fits : FitsSigned w128 root = search rules in
    let root_is : passed root ≡ root = same128 root root_fits in
    let again : c.as_slice-2.result.now ≡ values_of ps = c.as_slice-2.ensures.value ∙ c.in_ok-values.ensures in
    all_values (λ m. pos (unsigned_abs m.sum) ≤ℤ m.gross) ps c.as_slice-2.result.now again sized.summed

pub part_over-requires-clause-in_range : goal.part_over-requires-clause-in_range
part_over-requires-clause-in_range c =
    let ps = c.args.parts.now in
    let sized = c.requires.sized in
    let p = c.args.params.now in
    let made : c.as_slice.result.now ≡ values_of ps = c.as_slice.ensures.value ∙ c.in_ok-values.ensures in
    let small : sum_by (λ m. unsigned_abs m.k) c.as_slice.result.now < 84 * 10 ^ 14 = omega (arith, values_size (λ m. unsigned_abs m.k) ps c.as_slice.result.now made, sized.margins) in
    let root = c.outer_root-root.result in
    let root_fits : FitsSigned w128 root = search rules in
    let root_is : passed root ≡ root = same128 root root_fits in
    let again : c.as_slice-2.result.now ≡ values_of ps = c.as_slice-2.ensures.value ∙ c.in_ok-values.ensures in
    omega (arith, values_size (λ m. unsigned_abs m.gross) ps c.as_slice-2.result.now again, sized.gross)

pub part_over-requires-clause-root_high : goal.part_over-requires-clause-root_high
part_over-requires-clause-root_high c =
    let ps = c.args.parts.now in
    let sized = c.requires.sized in
    let p = c.args.params.now in
    let made : c.as_slice.result.now ≡ values_of ps = c.as_slice.ensures.value ∙ c.in_ok-values.ensures in
    let small : sum_by (λ m. unsigned_abs m.k) c.as_slice.result.now < 84 * 10 ^ 14 = omega (arith, values_size (λ m. unsigned_abs m.k) ps c.as_slice.result.now made, sized.margins) in
    let root = c.outer_root-root.result in
    let root_fits : FitsSigned w128 root = search rules in
    let root_is : passed root ≡ root = same128 root root_fits in
    subst (λ z. z <ℤ pos (84 * 10 ^ 14)) (sym root_is) (omega (arith, ints, c.outer_root-root.ensures.size, small))

pub returns-clause-value : goal.returns-clause-value
returns-clause-value c =
    let ps = c.args.parts.now in
    let sized = c.requires.sized in
    let p = c.args.params.now in
    let made : c.as_slice.result.now ≡ values_of ps = c.as_slice.ensures.value ∙ c.in_ok-values.ensures in
    let small : sum_by (λ m. unsigned_abs m.k) c.as_slice.result.now < 84 * 10 ^ 14 = omega (arith, values_size (λ m. unsigned_abs m.k) ps c.as_slice.result.now made, sized.margins) in
    let root = c.outer_root-root.result in
    let root_fits : FitsSigned w128 root = search rules in
    let root_is : passed root ≡ root = same128 root root_fits in
    let again : c.as_slice-2.result.now ≡ values_of ps = c.as_slice-2.ensures.value ∙ c.in_ok-values.ensures in
    let part = c.part_over.result in
    let fits : FitsSigned w128 part = search rules in
    same128 part fits ∙ c.part_over.ensures.value ∙ ap (λ z. part_over z c.as_slice-2.result.now (passed root)) c.lambda_base.ensures.value
    ∙ ap (λ ms. part_over p.lambda_base ms (passed root)) (again ∙ values_are ps)
    ∙ ap (part_over p.lambda_base (map (λ b. b.value) (as_parts ps)))
    (root_is ∙ c.outer_root-root.ensures.value ∙ currencies_root (gamma_across p) (combined c.in_millionths-between.result.0 c.in_millionths-between.result.0) ps c.as_slice.result.now c.requires.ascends made
    (ap (λ z. combined z z) (c.in_millionths-between.ensures.value ∙ ap six c.rate_gamma.ensures.value)))
    ∙ part_is p.lambda_base (as_parts ps) (outer same_name (λ b d. gamma_across p) (as_parts ps))

pub returns-clause-low : goal.returns-clause-low
returns-clause-low c =
    let ps = c.args.parts.now in
    let sized = c.requires.sized in
    let p = c.args.params.now in
    let made : c.as_slice.result.now ≡ values_of ps = c.as_slice.ensures.value ∙ c.in_ok-values.ensures in
    let small : sum_by (λ m. unsigned_abs m.k) c.as_slice.result.now < 84 * 10 ^ 14 = omega (arith, values_size (λ m. unsigned_abs m.k) ps c.as_slice.result.now made, sized.margins) in
    let root = c.outer_root-root.result in
    let root_fits : FitsSigned w128 root = search rules in
    let root_is : passed root ≡ root = same128 root root_fits in
    let again : c.as_slice-2.result.now ≡ values_of ps = c.as_slice-2.ensures.value ∙ c.in_ok-values.ensures in
    let part = c.part_over.result in
    let fits : FitsSigned w128 part = search rules in
    subst (λ z. pos 0 ≤ℤ z) (sym (same128 part fits)) c.part_over.ensures.low

pub returns-clause-size : goal.returns-clause-size
returns-clause-size c =
    let ps = c.args.parts.now in
    let sized = c.requires.sized in
    let p = c.args.params.now in
    let made : c.as_slice.result.now ≡ values_of ps = c.as_slice.ensures.value ∙ c.in_ok-values.ensures in
    let small : sum_by (λ m. unsigned_abs m.k) c.as_slice.result.now < 84 * 10 ^ 14 = omega (arith, values_size (λ m. unsigned_abs m.k) ps c.as_slice.result.now made, sized.margins) in
    let root = c.outer_root-root.result in
    let root_fits : FitsSigned w128 root = search rules in
    let root_is : passed root ≡ root = same128 root root_fits in
    let again : c.as_slice-2.result.now ≡ values_of ps = c.as_slice-2.ensures.value ∙ c.in_ok-values.ensures in
    let part = c.part_over.result in
    let fits : FitsSigned w128 part = search rules in
    subst (λ z. z ≤ℤ pos (gross_size ps + 10 * margins_size ps)) (sym (same128 part fits))
    (omega (
      arith,
      ints,
      values_size (λ m. unsigned_abs m.gross) ps (values_of ps) refl,
      values_size (λ m. unsigned_abs m.k) ps (values_of ps) refl,
      bound_from (values_of ps) c.as_slice.result.now c.as_slice-2.result.now root part made again c.outer_root-root.ensures.not_negative c.outer_root-root.ensures.size
          (subst (λ z. part ≤ℤ pos (sum_by (λ (m : BucketMargin). unsigned_abs m.gross) c.as_slice-2.result.now + 10 * unsigned_abs z)) root_is c.part_over.ensures.size),
    ))
