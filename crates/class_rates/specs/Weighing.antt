-- The rates of a currency, weighed: its curves and its inflation are one concentration group, and its basis is in none.
-- (ISDA SIMM methodology, interest rate risk: risk weights by volatility, concentration.)
use Rattle.std.specs.Prelude.{List, ℤ, pos, if◌then◌else◌}
use Rattle.measured_bucket.specs.SimmKinds.Order.{tenor_place}
use Rattle.measured_bucket.specs.SimmRules.Params.{Params}
use Rattle.measured_bucket.specs.SimmRules.Lookups.{at_place}
use Rattle.measured_bucket.specs.SimmRules.Sums.{total_by}
use Rattle.measured_bucket.specs.SimmRules.Concentration.{one}
use Rattle.measured_bucket.specs.SimmRules.Bucket.{weighted_value}
use Rattle.measured_bucket.specs.SimmRules.Rates.{is_basis}
use Rattle.measured_bucket.specs.SimmParams.RateLookups.{category_curve}
use Rattle.measured_bucket.specs.SimmParams.declared.category.CurveCategory.{CurveCategory}
use Rattle.measured_bucket.specs.WeightedBucket.declared.weighed.Weighed.{Weighed}
use Rattle.class_rates.specs.declared.rate.Rate.{Rate}
use Rattle.class_rates.specs.declared.rate.Rate.TheVariants as rate
use Rattle.class_rates.specs.declared.rates.RateNet.{RateNet}
use Rattle.class_rates.specs.Rates.{rule_rate}

-- the part of a net in that of the group
abbrev pub group_part : RateNet → ℤ
group_part n = if is_basis (rule_rate n.rate) then pos 0 else n.net

abbrev pub group_net : List RateNet → ℤ
group_net nets = total_by group_part nets

-- the weight of a rate of a currency of this category
abbrev pub weight_in : Params → CurveCategory → Rate → ℤ
weight_in p category (rate.Curve tenor sub) = at_place (category_curve p category) (tenor_place tenor)
weight_in p category rate.Inflation = p.ir.inflation_weight
weight_in p category rate.Basis = p.ir.basis_weight

-- the concentration factor of a rate, where cr is its currency's
abbrev pub cr_of : ℤ → Rate → ℤ
cr_of cr r = if is_basis (rule_rate r) then one else cr

-- a net, weighed
abbrev pub weighed_in : Params → CurveCategory → ℤ → RateNet → Weighed
weighed_in p category cr n = record { w = weighted_value (weight_in p category n.rate) n.net (cr_of cr n.rate); cr = record { 0 = cr_of cr n.rate } }
