-- The correlations of a currency's rates, and of its volatilities, by their places.
-- (ISDA SIMM methodology, interest rate risk: correlations.)
use Rattle.std.specs.Prelude.{ℕ, List, slice_index_or, ℤ, pos}
use Rattle.measured_bucket.specs.SimmKinds.declared.kinds.Tenor.TheVariants as tenor
use Rattle.measured_bucket.specs.SimmRules.Params.{Params}
use Rattle.measured_bucket.specs.SimmRules.Rates.{rate_rho, rate_volatility_rho}
use Rattle.class_rates.specs.declared.rate.Rate.{Rate}
use Rattle.class_rates.specs.declared.rate.Rate.TheVariants as rate
use Rattle.class_rates.specs.declared.rates.RateNet.{RateNet}
use Rattle.class_rates.specs.declared.volatility.Volatility.{Volatility}
use Rattle.class_rates.specs.declared.volatility.Volatility.TheVariants as volatility
use Rattle.class_rates.specs.declared.volatilities.VolatilityNet.{VolatilityNet}
use Rattle.class_rates.specs.Rates.{rule_rate}
use Rattle.class_rates.specs.Volatilities.{rule_volatility}

-- ---- rates

abbrev pub rho_of : Params → Rate → Rate → ℤ
rho_of p a b = rate_rho p (rule_rate a) (rule_rate b)

abbrev pub no_rate : RateNet
no_rate = record { rate = rate.Basis; net = pos 0 }

abbrev pub rho_at : Params → List RateNet → ℕ → ℕ → ℤ
rho_at p nets i j = rho_of p (slice_index_or nets i no_rate).rate (slice_index_or nets j no_rate).rate

-- ---- volatilities

abbrev pub volatility_rho_of : Params → Volatility → Volatility → ℤ
volatility_rho_of p a b = rate_volatility_rho p (rule_volatility a) (rule_volatility b)

abbrev pub no_volatility : VolatilityNet
no_volatility = record { volatility = volatility.Rates tenor.W2; net = pos 0 }

abbrev pub volatility_rho_at : Params → List VolatilityNet → ℕ → ℕ → ℤ
volatility_rho_at p nets i j = volatility_rho_of p (slice_index_or nets i no_volatility).volatility (slice_index_or nets j no_volatility).volatility
