-- What the factors of a bucket of credit are weighed from.
-- (ISDA SIMM methodology, credit spread risk: weighted sensitivities; curvature; base correlation
-- margin.)
use Rattle.std.specs.Prelude.{ℕ, List, Bool, ℤ, pos, ◌*ℤ◌, if◌then◌else◌}
use Rattle.std.specs.List.{filter}
use Rattle.measured_bucket.specs.SimmKinds.Order.{same_name}
use Rattle.measured_bucket.specs.SimmKinds.Tenors.{tenor_at}
use Rattle.measured_bucket.specs.SimmRules.Params.{Params}
use Rattle.measured_bucket.specs.SimmRules.Sums.{total_by}
use Rattle.measured_bucket.specs.SimmRules.Curvature.{scale_of}
use Rattle.measured_bucket.specs.SimmRules.Risks.{CreditPoint, Amount}
use Rattle.measured_bucket.specs.WeightedBucket.declared.group.Grouped.{Grouped}
use Rattle.measured_bucket.specs.WeightedBucket.Group.{group_net}
use Rattle.measured_bucket.specs.declared.weighing.Weighing.{Weighing}
use Rattle.measured_bucket.specs.Explained.{Unweighed, from_group, without_group}

-- the net of an issuer: of all its points in the bucket
abbrev pub net_of_issuer : List (Amount CreditPoint) → List ℕ → ℤ
net_of_issuer points issuer =
    total_by (λ a. a.amount) (filter (λ a. same_name (a.of).issuer issuer) points)

-- in delta and vega: its net, the net and threshold of its issuer, and the weight
abbrev pub unweighed_point : ℤ → ℤ → List (Amount CreditPoint) → Amount CreditPoint
    → Unweighed CreditPoint
unweighed_point weight threshold points a = record {
  of = a.of;
  from = from_group weight threshold (net_of_issuer points (a.of).issuer) a.amount;
}

-- in curvature: its net, as its tenor counts, at a volatility of 1, or of 0 in a bucket without
-- curvature
abbrev pub scaled_net : Amount CreditPoint → ℤ
scaled_net a = scale_of (tenor_at (a.of).tenor) *ℤ a.amount

abbrev pub weighing_at : ℤ → Amount CreditPoint → Weighing
weighing_at sigma a = without_group sigma (scaled_net a)

abbrev pub uncurved_point : Bool → Amount CreditPoint → Unweighed CreditPoint
uncurved_point curvature a = record {
  of = a.of;
  from = weighing_at (if curvature then pos 10000 else pos 0) a;
}

-- in base correlation: its net and the weight
abbrev pub unweighed_index : Params → Amount (List ℕ) → Unweighed (List ℕ)
unweighed_index p a = record { of = a.of; from = without_group p.base_weight a.amount }

-- ---- as the code has them

-- a net of a group
abbrev pub weighing_in : ℤ → List Grouped → Grouped → Weighing
weighing_in weight grouped g = from_group weight g.threshold (group_net grouped g.group) g.x
