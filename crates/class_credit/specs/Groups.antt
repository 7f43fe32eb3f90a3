-- The concentration groups of points of a bucket of credit: an issuer's points stand together.
-- (ISDA SIMM methodology, credit spread risk: concentration by issuer.)
use Rattle.std.specs.Prelude.{ℕ, zero, suc, ◌≡◌, ◌+◌, ◌*◌, ◌^◌, ◌<◌, ◌≤◌, All, sum_by, unsigned_abs, List, [], map, length, slice_index_or, ℤ, pos, ◌≤ℤ◌, ◌==◌, if◌then◌else◌}
use Rattle.std.specs.List.Sorted.{IsNonDecreasingBy}
use Rattle.measured_bucket.specs.SimmKinds.Order.{same_name}
use Rattle.measured_bucket.specs.SimmRules.Bucket.{weighted_value}
use Rattle.measured_bucket.specs.SimmRules.Risks.{CreditPoint, Amount}
use Rattle.measured_bucket.specs.WeightedBucket.declared.group.Grouped.{Grouped}
use Rattle.measured_bucket.specs.WeightedBucket.declared.weighed.Weighed.{Weighed}
use Rattle.measured_bucket.specs.WeightedBucket.Group.{at, group_net, group_factor, CanConcentrate}
use Rattle.class_credit.specs.declared.points.PointNet.{PointNet}

-- a net, by its issuer
abbrev pub issuer_net : Amount CreditPoint → Amount (List ℕ)
issuer_net a = record { of = (a.of).issuer; amount = a.amount }

abbrev pub issuer_view : PointNet → Amount (List ℕ)
issuer_view n = record { of = n.point.issuer.now; amount = n.net }

abbrev pub issuers_view : List PointNet → List (Amount (List ℕ))
issuers_view nets = map issuer_view nets

abbrev pub net_at : List (Amount (List ℕ)) → ℕ → Amount (List ℕ)
net_at nets k = slice_index_or nets k (record { of = []; amount = pos 0 })

-- how often the issuer changes up to a place: the number of its group
abbrev pub changes : List (Amount (List ℕ)) → ℕ → ℕ
changes nets zero = 0
changes nets (suc k) = if same_name (net_at nets k).of (net_at nets (suc k)).of then changes nets k else changes nets k + 1

-- each net in the group of its issuer
pub record AreGrouped (threshold : ℤ) (nets : List (Amount (List ℕ))) (grouped : List Grouped) : Type 0 where
  pub count : length grouped ≡ length nets
  pub each : (k : ℕ) → k < length nets → at grouped k ≡ record { group = changes nets k; x = (net_at nets k).amount; threshold = threshold }

-- a net of a group, weighed by the concentration of the group
abbrev pub weighed_in : ℤ → List Grouped → Grouped → Weighed
weighed_in weight grouped g = record { w = weighted_value weight g.x (group_factor grouped g); cr = record { 0 = group_factor grouped g } }

-- groups that can be weighed: they stand in order, and each net and the sum of each group is small beside the threshold
pub record CanWeigh (weight : ℤ) (grouped : List Grouped) : Type 0 where
  pub ordered : IsNonDecreasingBy (λ g. g.group) grouped
  pub in_range : sum_by (λ g. unsigned_abs g.x) grouped < 2 ^ 120
  pub concentrates : All (λ g. CanConcentrate (group_net grouped g.group) g.threshold) grouped
  pub small : All (λ g. unsigned_abs g.x * unsigned_abs weight ≤ 10 ^ 28) grouped

-- Points that can be weighed by this weight over this threshold: no more than 2,000, whose sizes come to at most 120,000
-- thresholds, and times the weight to at most 2 * 10^13 cents.
pub record AreWeighable (weight threshold : ℤ) (points : List (Amount CreditPoint)) : Type 0 where
  pub few : length points ≤ 2000
  pub threshold_low : pos 1 ≤ℤ threshold
  pub threshold_high : threshold ≤ℤ pos (10 ^ 15)
  pub thick : sum_by (λ a. unsigned_abs a.amount) points ≤ 120000 * unsigned_abs threshold
  pub weight_low : pos 0 ≤ℤ weight
  pub sizes : sum_by (λ a. unsigned_abs a.amount) points * unsigned_abs weight ≤ 2 * 10 ^ 17
  pub small : sum_by (λ a. unsigned_abs a.amount) points ≤ 10 ^ 17

-- the correlation of points of the groups at two places: of one issuer, or of two
abbrev pub issuer_rho : ℤ → ℤ → List Grouped → ℕ → ℕ → ℤ
issuer_rho same rho grouped i j = if (at grouped i).group == (at grouped j).group then same else rho
