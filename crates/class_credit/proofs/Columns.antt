-- Points of a bucket of credit that can be weighed, and what is known of them when they are weighed.
use Rattle.std.proofs.Common.{◌≡◌, ◌^◌, ℕ, ◌*◌, ◌≤◌, List, map, sym, ◌∙◌, subst, ℤ, pos, ◌≤ℤ◌, unsigned_abs, arith, mul-le-mul_left}
use Rattle.std.specs.Prelude.{sum_by}
use Rattle.std.specs.List.Sorted.{IsStrictlySortedBy}
use Rattle.std.proofs.lemmas.Int.{ints}
use Rattle.std.proofs.lemmas.Simd.{map-map}
use Rattle.measured_bucket.specs.SimmRules.Risks.{CreditPoint, Amount}
use Rattle.measured_bucket.specs.SimmRules.Credit.{issuer_cr, weighted_point}
use Rattle.measured_bucket.specs.SimmParams.Facts.{IsWeighed}
use Rattle.measured_bucket.specs.SimmParams.Ranges.{vega_weights, IsWithin}
use Rattle.measured_bucket.specs.WeightedBucket.declared.group.Grouped.{Grouped}
use Rattle.measured_bucket.specs.WeightedBucket.declared.weighed.Weighed.{Weighed}
use Rattle.measured_bucket.specs.Measured.{IsNear}
use Rattle.measured_bucket.specs.Values.{alone, weighed_as, AreTerms, IsInRange}
use Rattle.measured_bucket.proofs.Columns.{IsClose, IsColumn, is_column}
use Rattle.measured_bucket.proofs.Sizes.{size_all, size_is, size_small, sum_by-scaled}
use Rattle.measured_bucket.proofs.Thick.{net_thick, cr_below, weighted_close}
use Rattle.class_credit.specs.declared.points.PointNet.{PointNet}
use Rattle.class_credit.specs.Groups.{issuer_net, issuers_view, weighed_in, AreGrouped, AreWeighable}
use Rattle.class_credit.specs.Points.{point_cmp, point_view, points_view}
use Rattle.class_credit.proofs.CreditValues.{points_made, issuer_low, issuer_size}

-- the groups of nets, as the code has them
pub grouped_views : (threshold t : ℤ) (nets : List PointNet) (grouped made : List Grouped) → grouped ≡ made → AreGrouped t (issuers_view nets) made → t ≡ threshold → AreGrouped threshold (map issuer_net (points_view nets)) grouped
grouped_views threshold t nets grouped made same groups is =
    subst (AreGrouped threshold (map issuer_net (points_view nets))) (sym same)
    (subst (λ ns. AreGrouped threshold ns made) (sym (map-map issuer_net point_view nets)) (subst (λ z. AreGrouped z (issuers_view nets) made) is groups))

module _ (weight threshold : ℤ) (points : List (Amount CreditPoint)) (ascends : IsStrictlySortedBy point_cmp (map (λ a. a.of) points)) (weighable : AreWeighable weight threshold points) (grouped : List Grouped) (groups : AreGrouped threshold (map issuer_net points) grouped) where
  small : (name : List ℕ) → unsigned_abs (issuer_cr points threshold name) ≤ 346999999
  small = issuer_size points threshold ascends grouped groups weight weighable

  close : (a : Amount CreditPoint) → IsClose (10 ^ 10) 346999999 1 (λ (x : CreditPoint). weight) a (weighed_as (weighted_point weight threshold points a))
  close a = record {
    from_one = issuer_low points threshold ascends grouped groups (a.of).issuer;
    below = cr_below (issuer_cr points threshold (a.of).issuer) (small (a.of).issuer);
    close = omega (arith, weighted_close weight a.amount (issuer_cr points threshold (a.of).issuer) (small (a.of).issuer));
  }

  sizes : size_all (λ (x : CreditPoint). weight) points ≡ sum_by (λ a. unsigned_abs a.amount) points * unsigned_abs weight
  sizes = sum_by-scaled (λ (a : Amount CreditPoint). unsigned_abs a.amount) (unsigned_abs weight) points

  pub concentrated_column : (factors : List Weighed) → factors ≡ map (weighed_in weight grouped) grouped → IsColumn (10 ^ 10) 346999999 1 (λ (x : CreditPoint). weight) points (weighted_point weight threshold points) factors
  concentrated_column factors e =
      is_column (10 ^ 10) 346999999 1 (λ (x : CreditPoint). weight) (λ x. weighable.weight_low) (weighted_point weight threshold points) close points
      (λ gross h. omega (arith, h, sizes, weighable.sizes, weighable.few)) factors (e ∙ points_made points threshold ascends grouped groups weight)

-- ---- what can be weighed

module _ (points : List (Amount CreditPoint)) (weight threshold : ℤ) (terms : AreTerms weight threshold) (range : IsInRange (λ (x : CreditPoint). weight) points) where
  low : pos 0 ≤ℤ weight
  low = omega (arith, ints, terms.some)

  sizes_small : sum_by (λ a. unsigned_abs a.amount) points * unsigned_abs weight ≤ 10 ^ 17
  sizes_small = omega (arith, sum_by-scaled (λ (a : Amount CreditPoint). unsigned_abs a.amount) (unsigned_abs weight) points, size_small (λ (x : CreditPoint). weight) (λ x. low) points range)

  some : 1 ≤ unsigned_abs weight
  some = omega (arith, ints, terms.some)

  sum_small : sum_by (λ a. unsigned_abs a.amount) points ≤ 10 ^ 17
  sum_small = omega (arith, sizes_small, mul-le-mul_left (sum_by (λ a. unsigned_abs a.amount) points) some)

  thick : sum_by (λ a. unsigned_abs a.amount) points ≤ 120000 * unsigned_abs threshold
  thick = net_thick (pos (sum_by (λ a. unsigned_abs a.amount) points)) weight threshold terms.weighed terms.some sizes_small

  pub delta_weighable : AreWeighable weight threshold points
  delta_weighable = record {
    few = range.few;
    threshold_low = terms.weighed.threshold_low;
    threshold_high = terms.weighed.threshold_high;
    thick = thick;
    weight_low = low;
    sizes = omega (arith, sizes_small);
    small = sum_small;
  }

-- by a vega risk weight, which is at most 2
module _ (points : List (Amount CreditPoint)) (vrw threshold : ℤ) (within : IsWithin vega_weights vrw) (weighed : IsWeighed (pos 10000) threshold) (range : IsInRange alone points) where
  unit : AreTerms (pos 10000) threshold
  unit = record { weighed = weighed; some = omega (arith, ints) }

  weight_most : unsigned_abs vrw ≤ 20000
  weight_most = omega (arith, ints, within.low, within.high)

  weight_least : pos 0 ≤ℤ vrw
  weight_least = omega (arith, ints, within.low)

  product_most : sum_by (λ a. unsigned_abs a.amount) points * unsigned_abs vrw ≤ sum_by (λ a. unsigned_abs a.amount) points * 20000
  product_most = mul-le-mul_left (sum_by (λ a. unsigned_abs a.amount) points) weight_most

  pub vega_weighable : AreWeighable vrw threshold points
  vega_weighable = record {
    few = range.few;
    threshold_low = weighed.threshold_low;
    threshold_high = weighed.threshold_high;
    thick = thick points (pos 10000) threshold unit range;
    weight_low = weight_least;
    sizes = omega (arith, product_most, sizes_small points (pos 10000) threshold unit range);
    small = sum_small points (pos 10000) threshold unit range;
  }

  pub vega_near : (gross : ℕ) → IsNear (10 ^ 10) 346999999 1 (λ (x : CreditPoint). vrw) points gross → IsNear (10 ^ 10) 693999998 1 alone points gross
  vega_near gross near =
      omega (
        arith,
        ints,
        near,
        size_is (λ (x : CreditPoint). vrw) (λ x. weight_least) points,
        sum_by-scaled (λ (a : Amount CreditPoint). unsigned_abs a.amount) (unsigned_abs vrw) points,
        size_is (alone {A = CreditPoint}) (λ x. omega (arith, ints)) points,
        sum_by-scaled (λ (a : Amount CreditPoint). unsigned_abs a.amount) 10000 points,
        product_most,
      )
