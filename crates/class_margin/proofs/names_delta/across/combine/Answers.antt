use Rattle.std.proofs.Common.{refl, ◌∙◌, ◌^◌, ◌*◌, ◌<◌, ◌≤◌, ap, sym, subst, pos, ◌+ℤ◌, ◌≤ℤ◌, unsigned_abs, FitsSigned, arith}
use Rattle.std.specs.Prelude.{sum_by}
use Rattle.std.specs.Int.{w128, cast_signed, cast_unsigned}
use Rattle.std.specs.List.{AllByRecursion}
use Rattle.std.proofs.lemmas.List.Elements.{All-from_recursion}
use Rattle.class_rates.proofs.MhUnits.Integers.{same128}
use Rattle.class_rates.specs.SimmKinds.Order.{same_bucket}
use Rattle.class_rates.specs.SimmRules.declared.values.BucketMargin.{BucketMargin}
use Rattle.class_rates.specs.SimmRules.Across.{outer, numbered, gamma_among}
use Rattle.class_margin.specs.Parts.{as_parts}
use Rattle.class_margin.specs.names_delta.Combine.{listed_in, gamma_in}
use Rattle.class_margin.proofs.curvature.Splits.{gamma_small}
use Rattle.class_margin.proofs.names_delta.Parts.{size, sizes_numbered, split_sizes, each_numbered, whole_sum, outer_is, numbered_ascend, gamma-symmetric, gamma-small}
use Rattle.class_margin.proofs.names_delta.across.combine.Goals as goal

pub invariant_of-gamma : goal.invariant_of-gamma
invariant_of-gamma c =
    let gamma = gamma_in c.args.params.now c.args.class in
    let places = c.in_ok-numbered.numbered.places.items in
    record {
      small = λ i j p q. gamma_small gamma places c.facts.ensures i j;
      sized = refl;
      symmetric = λ i j p q. gamma-symmetric gamma places c.facts.ensures i j;
      at_most_one = λ i j p q. gamma-small gamma places c.facts.ensures i j;
    }

pub outer_root-outer-requires-clause-not_negative : goal.outer_root-outer-requires-clause-not_negative
outer_root-outer-requires-clause-not_negative c =
    let ps = c.args.parts.now in
    let made = c.as_slice.ensures.value ∙ c.in_ok-numbered.ensures.margins in
    All-from_recursion (λ (m : BucketMargin). pos 0 ≤ℤ m.k) c.as_slice.result.now (subst (AllByRecursion (λ (m : BucketMargin). pos 0 ≤ℤ m.k)) (sym made) (each_numbered (λ m. pos 0 ≤ℤ m.k) ps c.requires.sized.not_negative))

pub outer_root-outer-requires-clause-held : goal.outer_root-outer-requires-clause-held
outer_root-outer-requires-clause-held c =
    let ps = c.args.parts.now in
    let made = c.as_slice.ensures.value ∙ c.in_ok-numbered.ensures.margins in
    All-from_recursion (λ (m : BucketMargin). unsigned_abs m.s ≤ unsigned_abs m.k) c.as_slice.result.now (subst (AllByRecursion (λ (m : BucketMargin). unsigned_abs m.s ≤ unsigned_abs m.k)) (sym made) (each_numbered (λ m. unsigned_abs m.s ≤ unsigned_abs m.k) ps c.requires.sized.held))

pub outer_root-outer-requires-clause-in_range : goal.outer_root-outer-requires-clause-in_range
outer_root-outer-requires-clause-in_range c =
    let ps = c.args.parts.now in
    let made = c.as_slice.ensures.value ∙ c.in_ok-numbered.ensures.margins in
    let small : sizes_numbered ps < 84 * 10 ^ 14 = omega (arith, split_sizes ps, c.requires.sized.in_range) in
    subst (λ ms. sum_by (λ (m : BucketMargin). unsigned_abs m.k) ms < 84 * 10 ^ 14) (sym made) small

pub overflow_add-result : goal.overflow_add-result
overflow_add-result c =
    let ps = c.args.parts.now in
    let made = c.as_slice.ensures.value ∙ c.in_ok-numbered.ensures.margins in
    let sum = whole_sum ps c.outer_root-outer.result c.residual.result c.as_slice.result.now c.requires.sized.not_negative c.requires.sized.in_range made c.outer_root-outer.ensures.not_negative c.outer_root-outer.ensures.size c.residual.ensures in
    subst (FitsSigned w128) (sym (ap (λ z. z +ℤ cast_signed w128 (cast_unsigned w128 c.residual.result)) (same128 c.outer_root-outer.result sum.first) ∙ ap (λ z. c.outer_root-outer.result +ℤ z) (same128 c.residual.result sum.second))) sum.both

pub returns-clause-value : goal.returns-clause-value
returns-clause-value c =
    let ps = c.args.parts.now in
    let made = c.as_slice.ensures.value ∙ c.in_ok-numbered.ensures.margins in
    let sum = whole_sum ps c.outer_root-outer.result c.residual.result c.as_slice.result.now c.requires.sized.not_negative c.requires.sized.in_range made c.outer_root-outer.ensures.not_negative c.outer_root-outer.ensures.size c.residual.ensures in
    ap (λ z. cast_signed w128 (cast_unsigned w128 (z +ℤ cast_signed w128 (cast_unsigned w128 c.residual.result)))) (same128 c.outer_root-outer.result sum.first)
    ∙ ap (λ z. cast_signed w128 (cast_unsigned w128 (c.outer_root-outer.result +ℤ z))) (same128 c.residual.result sum.second)
    ∙ same128 (c.outer_root-outer.result +ℤ c.residual.result) sum.both
    ∙ ap (λ z. z +ℤ c.residual.result) (c.outer_root-outer.ensures.value ∙ outer_is (listed_in c.args.params.now c.args.class) (gamma_in c.args.params.now c.args.class) (numbered (as_parts ps)) c.as_slice.result.now c.in_ok-numbered.numbered.places.items (numbered_ascend ps c.requires.sized.ascends) made c.in_ok-numbered.ensures.places)
    ∙ ap (λ z. outer same_bucket (gamma_among (listed_in c.args.params.now c.args.class) (gamma_in c.args.params.now c.args.class)) (numbered (as_parts ps)) +ℤ z) c.residual.ensures

pub returns-clause-low : goal.returns-clause-low
returns-clause-low c =
    let ps = c.args.parts.now in
    let made = c.as_slice.ensures.value ∙ c.in_ok-numbered.ensures.margins in
    let sum = whole_sum ps c.outer_root-outer.result c.residual.result c.as_slice.result.now c.requires.sized.not_negative c.requires.sized.in_range made c.outer_root-outer.ensures.not_negative c.outer_root-outer.ensures.size c.residual.ensures in
    subst (λ z. pos 0 ≤ℤ z)
    (sym (ap (λ z. cast_signed w128 (cast_unsigned w128 (z +ℤ cast_signed w128 (cast_unsigned w128 c.residual.result)))) (same128 c.outer_root-outer.result sum.first)
    ∙ ap (λ z. cast_signed w128 (cast_unsigned w128 (c.outer_root-outer.result +ℤ z))) (same128 c.residual.result sum.second)
    ∙ same128 (c.outer_root-outer.result +ℤ c.residual.result) sum.both)) sum.low

pub returns-clause-size : goal.returns-clause-size
returns-clause-size c =
    let ps = c.args.parts.now in
    let made = c.as_slice.ensures.value ∙ c.in_ok-numbered.ensures.margins in
    let sum = whole_sum ps c.outer_root-outer.result c.residual.result c.as_slice.result.now c.requires.sized.not_negative c.requires.sized.in_range made c.outer_root-outer.ensures.not_negative c.outer_root-outer.ensures.size c.residual.ensures in
    subst (λ z. z ≤ℤ pos (sum_by size ps))
    (sym (ap (λ z. cast_signed w128 (cast_unsigned w128 (z +ℤ cast_signed w128 (cast_unsigned w128 c.residual.result)))) (same128 c.outer_root-outer.result sum.first)
    ∙ ap (λ z. cast_signed w128 (cast_unsigned w128 (c.outer_root-outer.result +ℤ z))) (same128 c.residual.result sum.second)
    ∙ same128 (c.outer_root-outer.result +ℤ c.residual.result) sum.both)) sum.high
