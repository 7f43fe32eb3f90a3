-- Base correlation: the index families of qualifying credit, without concentration.
-- (ISDA SIMM methodology, base correlation margin.)
use Rattle.std.specs.Prelude.{ℕ, ◌^◌, List, map, Option, Some, None, ℤ, pos, ◌*ℤ◌}
use Rattle.simm_kinds.specs.MhUnits.Rounding.{away}
use Rattle.simm_kinds.specs.Order.{same_name}
use Rattle.simm_rules.specs.declared.values.BucketMargin.{BucketMargin}
use Rattle.simm_rules.specs.Params.{Params}
use Rattle.simm_rules.specs.Lookups.{six}
use Rattle.simm_rules.specs.Net.{Sensitivity}
use Rattle.simm_rules.specs.Risks.{Risk, Of_rate, Of_rate_volatility, Of_credit, Of_credit_volatility, Of_base_correlation, Of_price, Of_price_volatility, Of_currency, Of_pair_volatility, Amount, select}
use Rattle.simm_rules.specs.Concentration.{one}
use Rattle.simm_rules.specs.Bucket.{Weighted, plain, bucket_value}

abbrev pub as_index : Risk → Option (List ℕ)
as_index (Of_rate currency rate) = None
as_index (Of_rate_volatility currency v) = None
as_index (Of_credit class b point) = None
as_index (Of_credit_volatility class b point) = None
as_index (Of_base_correlation index) = Some index
as_index (Of_price class b name) = None
as_index (Of_price_volatility class b name tenor) = None
as_index (Of_currency currency) = None
as_index (Of_pair_volatility pair tenor) = None

-- the weight times the amount, away from zero
abbrev pub weighted_index : Params → Amount (List ℕ) → Weighted (List ℕ)
weighted_index p a = record { of = a.of; w = away (p.base_weight *ℤ a.amount) (pos (10 ^ 4)); cr = one }

-- of two different families
abbrev pub index_rho : Params → List ℕ → List ℕ → ℤ
index_rho p k l = six p.base_rho

abbrev pub base_value : Params → List (Amount (List ℕ)) → BucketMargin
base_value p indices = bucket_value (plain same_name (index_rho p)) one (map (weighted_index p) indices)

abbrev pub base_margin : Params → List Sensitivity → ℤ
base_margin p ss = (base_value p (select as_index ss)).k
