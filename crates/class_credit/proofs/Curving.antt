-- Curvature risks of the volatilities of a bucket of credit.
use Rattle.std.proofs.Common.{◌≡◌, ◌^◌, ◌+◌, ◌*◌, ◌≤◌, List, map, Bool, true, false, if◌then◌else◌, All, sym, ap, ◌∙◌, subst, ℤ, pos, ◌*ℤ◌, unsigned_abs, arith, mul-le-mul_left}
use Rattle.std.proofs.lemmas.Int.{ints}
use Rattle.std.proofs.lemmas.List.Elements.{All-from_recursion}
use Rattle.std.proofs.lemmas.Simd.{map-map}
use Rattle.measured_bucket.specs.SimmKinds.declared.kinds.Tenor.{Tenor}
use Rattle.measured_bucket.specs.SimmKinds.Tenors.{tenor_at}
use Rattle.measured_bucket.specs.SimmRules.Curvature.{scale_of, curved}
use Rattle.measured_bucket.specs.SimmRules.Risks.{CreditPoint, Amount}
use Rattle.measured_bucket.specs.SimmRules.Bucket.{Weighted}
use Rattle.measured_bucket.specs.SimmRules.Credit.{curved_point}
use Rattle.measured_bucket.specs.WeightedBucket.declared.weighed.Weighed.{Weighed}
use Rattle.measured_bucket.specs.Explained.{Unweighed, weighted_from}
use Rattle.measured_bucket.specs.declared.weighing.Weighing.{Weighing}
use Rattle.measured_bucket.specs.Risk.{risk_of}
use Rattle.measured_bucket.specs.Values.{alone, weighed_as, IsInRange}
use Rattle.measured_bucket.proofs.Columns.{IsClose, IsColumn, is_column}
use Rattle.measured_bucket.proofs.Curved.{with_risk, risk_alone, risk_none, risk_close}
use Rattle.measured_bucket.proofs.Explaining.{made_by, listed_by}
use Rattle.measured_bucket.proofs.Lists.{each_weaker, each_unmap, maps_agree}
use Rattle.measured_bucket.proofs.Scales.{scale_of-size, times_size}
use Rattle.measured_bucket.proofs.Sizes.{each_small, size_small}
use Rattle.class_credit.specs.declared.points.PointNet.{PointNet}
use Rattle.class_credit.specs.Points.{curved_net, point_view, points_view}
use Rattle.class_credit.specs.Unweighed.{scaled_net, weighing_at, uncurved_point}

-- ---- one

pub scaled_size : (t : Tenor) (x : ℤ) → unsigned_abs (scale_of t *ℤ x) ≤ unsigned_abs x * 10950
scaled_size t x = times_size (scale_of t) x 10950 (scale_of-size t)

close : (sigma : ℤ) (t : Tenor) (x : ℤ) → unsigned_abs sigma ≤ 10000 → unsigned_abs (risk_of sigma (scale_of t *ℤ x)) * 20000 ≤ unsigned_abs x * 10000 + 20000
close sigma t x h = omega (arith, risk_close sigma (scale_of t *ℤ x), mul-le-mul_left (unsigned_abs (scale_of t *ℤ x)) h, scaled_size t x)

-- at the volatility of a bucket with or without curvature
abbrev sigma_of : Bool → ℤ
sigma_of curvature = if curvature then pos 10000 else pos 0

sigma_small : (curvature : Bool) → unsigned_abs (sigma_of curvature) ≤ 10000
sigma_small true = omega arith
sigma_small false = omega arith

net_risk : (curvature : Bool) (a : Amount CreditPoint) → curved_net (sigma_of curvature) a ≡ weighed_as (curved_point curvature a)
net_risk true a = ap with_risk (risk_alone (pos 10000) (tenor_at (a.of).tenor) a.amount)
net_risk false a = ap with_risk (risk_none (scale_of (tenor_at (a.of).tenor) *ℤ a.amount))

curved_close : (curvature : Bool) (a : Amount CreditPoint) → IsClose 20000 1 1 alone a (weighed_as (curved_point curvature a))
curved_close curvature a = record {
  from_one = omega (arith, ints);
  below = omega (arith, ints);
  close = subst (λ (f : Weighed). unsigned_abs f.w * 20000 ≤ unsigned_abs a.amount * 10000 * 1 + 1 * 20000) (net_risk curvature a) (omega (arith, close (sigma_of curvature) (tenor_at (a.of).tenor) a.amount (sigma_small curvature)));
}

-- ---- those of a bucket

module _ (nets : List PointNet) (range : IsInRange alone (points_view nets)) where
  pub nets_small : All (λ point. unsigned_abs point.net ≤ 2 * 10 ^ 20) nets
  nets_small =
      All-from_recursion (λ (point : PointNet). unsigned_abs point.net ≤ 2 * 10 ^ 20) nets
      (each_unmap (λ (a : Amount CreditPoint). unsigned_abs a.amount ≤ 2 * 10 ^ 20) point_view nets
      (each_weaker (λ (a : Amount CreditPoint). unsigned_abs a.amount * 10000 ≤ 10 ^ 17) (λ a. unsigned_abs a.amount ≤ 2 * 10 ^ 20) (λ a h. omega (arith, h)) (points_view nets)
      (each_small alone (λ x. omega (arith, ints)) (points_view nets) range)))

  pub curved_column : (curvature : Bool) (sigma : ℤ) (factors : List Weighed) → factors ≡ map (λ point. curved_net sigma (point_view point)) nets → sigma ≡ (if curvature then pos 10000 else pos 0)
      → IsColumn 20000 1 1 alone (points_view nets) (curved_point curvature) factors
  curved_column curvature sigma factors e is =
      is_column 20000 1 1 alone (λ x. omega (arith, ints)) (curved_point curvature) (curved_close curvature) (points_view nets)
      (λ gross h. omega (arith, h, size_small alone (λ (x : CreditPoint). omega (arith, ints)) (points_view nets) range, range.few)) factors
      (e ∙ ap (λ z. map (λ point. curved_net z (point_view point)) nets) is ∙ sym (map-map (curved_net (sigma_of curvature)) point_view nets)
      ∙ maps_agree (curved_net (sigma_of curvature)) (λ a. weighed_as (curved_point curvature a)) (net_risk curvature) (points_view nets))

-- ---- what they are weighed from

abbrev pub risk_from : Unweighed CreditPoint → Weighted CreditPoint
risk_from = weighted_from (λ weight amount cr. risk_of weight amount)

uncurved_is : (curvature : Bool) (a : Amount CreditPoint) → curved_point curvature a ≡ risk_from (uncurved_point curvature a)
uncurved_is true a = sym (ap (curved a.of) (risk_alone (pos 10000) (tenor_at (a.of).tenor) a.amount))
uncurved_is false a = sym (ap (curved a.of) (risk_none (scaled_net a)))

pub curved_made : (curvature : Bool) (points : List (Amount CreditPoint)) → map (curved_point curvature) points ≡ map risk_from (map (uncurved_point curvature) points)
curved_made curvature points = made_by (λ weight amount cr. risk_of weight amount) (uncurved_point curvature) (curved_point curvature) (uncurved_is curvature) points

pub curved_listed : (curvature : Bool) (sigma : ℤ) (nets : List PointNet) (weighings : List Weighing) → weighings ≡ map (λ point. weighing_at sigma (point_view point)) nets → sigma ≡ (if curvature then pos 10000 else pos 0)
    → weighings ≡ map (λ f. f.from) (map (uncurved_point curvature) (points_view nets))
curved_listed curvature sigma nets weighings e is =
    listed_by (uncurved_point curvature) point_view nets weighings (e ∙ ap (λ z. map (λ point. weighing_at z (point_view point)) nets) is)
