-- The points of a bucket of credit, and their volatilities, among the factors of a book: where they stand, in which order, and
-- which can be measured.
-- (ISDA SIMM methodology, credit spread risk.)
use Rattle.std.specs.Prelude.{List, map, Option, Some, None, ℤ, ◌*ℤ◌}
use Rattle.std.specs.declared.cmp.Ordering.{Ordering}
use Rattle.std.specs.Ordering.{nat_cmp, then_cmp, on}
use Rattle.std.specs.List.Sorted.{IsStrictlySortedBy}
use Rattle.measured_bucket.specs.SimmKinds.declared.kinds.ProductClass.{ProductClass}
use Rattle.measured_bucket.specs.SimmKinds.declared.bucket.Bucket.{Bucket}
use Rattle.measured_bucket.specs.SimmKinds.declared.key.FactorKey.{FactorKey}
use Rattle.measured_bucket.specs.SimmKinds.Order.{name_cmp, credit_tenor_place}
use Rattle.measured_bucket.specs.SimmKinds.Tenors.{tenor_at}
use Rattle.measured_bucket.specs.SimmRules.Risks.{Risk, Of_rate, Of_rate_volatility, Of_credit, Of_credit_volatility, Of_base_correlation, Of_price, Of_price_volatility, Of_currency, Of_pair_volatility, CreditPoint, credit_point, Amount, select}
use Rattle.measured_bucket.specs.SimmRules.declared.classes.CreditClass.{CreditClass}
use Rattle.measured_bucket.specs.SimmRules.Credit.{as_credit, as_credit_volatility}
use Rattle.measured_bucket.specs.SimmRules.Curvature.{scale_of}
use Rattle.measured_bucket.specs.FactorBook.declared.place.Place.{Place}
use Rattle.measured_bucket.specs.FactorBook.declared.place.Stand.TheVariants as stand
use Rattle.measured_bucket.specs.FactorBook.declared.slot.Slot.TheVariants as slot
use Rattle.measured_bucket.specs.FactorBook.declared.holding.Holding.{Holding}
use Rattle.measured_bucket.specs.FactorBook.Factors.{net_of}
use Rattle.measured_bucket.specs.WeightedBucket.declared.weighed.Weighed.{Weighed}
use Rattle.measured_bucket.specs.Risk.{curved_by}
use Rattle.measured_bucket.specs.Values.{nets_in, IsInRange}
use Rattle.class_credit.specs.declared.points.Point.{Point}
use Rattle.class_credit.specs.declared.points.PointNet.{PointNet}

-- ---- where they stand

abbrev pub points_place : CreditClass → Bucket → ProductClass → Place
points_place class at product = record { product = product; stand = stand.Delta (slot.Credit class at) }

abbrev pub volatilities_place : CreditClass → Bucket → ProductClass → Place
volatilities_place class at product = record { product = product; stand = stand.Volatility (slot.Credit class at) }

-- ---- their nets, in key order

abbrev pub points_in : CreditClass → Bucket → ProductClass → List (FactorKey × Holding) → List (Amount CreditPoint)
points_in class at product factors = select (as_credit class at) (nets_in product factors)

abbrev pub volatilities_in : CreditClass → Bucket → ProductClass → List (FactorKey × Holding) → List (Amount CreditPoint)
volatilities_in class at product factors = select (as_credit_volatility class at) (nets_in product factors)

-- the point of a credit curve that a risk is of, or of whose volatility it is, in whichever bucket
abbrev pub as_point : Risk → Option CreditPoint
as_point (Of_rate currency rate) = None
as_point (Of_rate_volatility currency v) = None
as_point (Of_credit class b point) = Some point
as_point (Of_credit_volatility class b point) = Some point
as_point (Of_base_correlation index) = None
as_point (Of_price class b name) = None
as_point (Of_price_volatility class b name tenor) = None
as_point (Of_currency currency) = None
as_point (Of_pair_volatility pair tenor) = None

abbrev pub point_nets : List (FactorKey × Holding) → List (Amount CreditPoint)
point_nets factors = select as_point (map net_of factors)

-- ---- their order: by issuer, tenor and label

abbrev pub point_cmp : CreditPoint → CreditPoint → Ordering
point_cmp = then_cmp (on (λ x. x.issuer) name_cmp) (then_cmp (on (λ x. credit_tenor_place x.tenor) nat_cmp) (on (λ x. x.label) name_cmp))

-- those that can be measured: different ones in order, in range by this weight
pub record ArePoints (weight : ℤ) (points : List (Amount CreditPoint)) : Type 0 where
  pub ascends : IsStrictlySortedBy point_cmp (map (λ a. a.of) points)
  pub range : IsInRange (λ _. weight) points

-- the curvature risk of a net, by its tenor, at a volatility
abbrev pub curved_net : ℤ → Amount CreditPoint → Weighed
curved_net sigma a = curved_by sigma (scale_of (tenor_at (a.of).tenor) *ℤ a.amount)

-- ---- as the code has them

abbrev pub credit_view : Point → CreditPoint
credit_view p = credit_point p.issuer.now p.tenor p.label.now

abbrev pub point_view : PointNet → Amount CreditPoint
point_view n = record { of = credit_view n.point; amount = n.net }

abbrev pub points_view : List PointNet → List (Amount CreditPoint)
points_view nets = map point_view nets
