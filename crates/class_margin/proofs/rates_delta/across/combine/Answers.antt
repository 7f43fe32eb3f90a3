use Rattle.std.proofs.Common.{◌∙◌, FitsSigned, rules, ap, pos, ◌≤ℤ◌, ◌<ℤ◌, ◌≤◌, All, unsigned_abs}
use Rattle.std.specs.Int.{w128}
use Rattle.class_rates.proofs.MhUnits.Integers.{same128}
use Rattle.class_rates.specs.SimmRules.declared.values.BucketMargin.{BucketMargin}
use Rattle.class_rates.specs.SimmRules.Lookups.{six}
use Rattle.class_rates.specs.SimmRules.Concentration.{one}
use Rattle.class_margin.proofs.rates_delta.Gammas.{each_value, gamma-symmetric, gamma-small, margin_is}
use Rattle.class_margin.proofs.rates_delta.across.combine.Goals as goal

pub invariant_of-correlation : goal.invariant_of-correlation
invariant_of-correlation c =
    let are = c.as_slice-buckets.ensures.value ∙ c.in_ok-values.ensures in
    record {
      from_one = each_value (λ b. one ≤ℤ b.cr.0) (λ b its. its.cr_low) c.args.parts.now c.as_slice-buckets.result.now c.requires are;
      below = each_value (λ b. b.cr.0 <ℤ pos 347000000) (λ b its. its.cr_high) c.args.parts.now c.as_slice-buckets.result.now c.requires are;
    }

pub invariant_of-correlation-2-clause-small : goal.invariant_of-correlation-2-clause-small
invariant_of-correlation-2-clause-small c = λ i j p q. c.in_millionths-gamma.ensures.size

pub invariant_of-correlation-2-clause-symmetric : goal.invariant_of-correlation-2-clause-symmetric
invariant_of-correlation-2-clause-symmetric c =
    let are = c.as_slice-buckets.ensures.value ∙ c.in_ok-values.ensures in
    let gamma = c.in_millionths-gamma.result.0 in
    let buckets = c.as_slice-buckets.result.now in
    let from_one : All (λ (b : BucketMargin). one ≤ℤ b.cr.0) buckets = each_value (λ b. one ≤ℤ b.cr.0) (λ b its. its.cr_low) c.args.parts.now buckets c.requires are in
    λ i j p q. gamma-symmetric gamma buckets from_one i j p q

pub invariant_of-correlation-2-clause-at_most_one : goal.invariant_of-correlation-2-clause-at_most_one
invariant_of-correlation-2-clause-at_most_one c =
    let are = c.as_slice-buckets.ensures.value ∙ c.in_ok-values.ensures in
    let gamma = c.in_millionths-gamma.result.0 in
    let buckets = c.as_slice-buckets.result.now in
    let from_one : All (λ (b : BucketMargin). one ≤ℤ b.cr.0) buckets = each_value (λ b. one ≤ℤ b.cr.0) (λ b its. its.cr_low) c.args.parts.now buckets c.requires are in
    λ i j p q. gamma-small gamma buckets from_one c.in_millionths-gamma.ensures.size i j p q

pub outer_root-requires-clause-not_negative : goal.outer_root-requires-clause-not_negative
outer_root-requires-clause-not_negative c = each_value (λ b. pos 0 ≤ℤ b.k) (λ b its. its.not_negative) c.args.parts.now c.as_slice-buckets.result.now c.requires (c.as_slice-buckets.ensures.value ∙ c.in_ok-values.ensures)

pub outer_root-requires-clause-held : goal.outer_root-requires-clause-held
outer_root-requires-clause-held c =
    each_value (λ b. unsigned_abs b.s ≤ unsigned_abs b.k) (λ b its. its.held) c.args.parts.now c.as_slice-buckets.result.now c.requires (c.as_slice-buckets.ensures.value ∙ c.in_ok-values.ensures)

pub returns-clause-value : goal.returns-clause-value
returns-clause-value c =
    let fits : FitsSigned w128 c.outer_root.result = search rules in
    let are = c.as_slice-buckets.ensures.value ∙ c.in_ok-values.ensures in
    let gamma = c.in_millionths-gamma.result.0 in
    same128 c.outer_root.result fits ∙ c.outer_root.ensures.value
    ∙ margin_is c.args.params.now c.args.parts.now c.requires gamma c.as_slice-buckets.result.now (c.in_millionths-gamma.ensures.value ∙ ap six c.rate_gamma.ensures.value) are
