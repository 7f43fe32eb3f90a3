-- The weighted size of the sensitivities of a risk class: that of delta, with base correlation, and that of volatility.
-- Amounts do not net in it.
use Rattle.std.specs.Prelude.{List, ℤ, pos, ◌+ℤ◌, ◌*ℤ◌, unsigned_abs}
use Rattle.simm_kinds.specs.MhUnits.Rounding.{up}
use Rattle.simm_kinds.specs.declared.kinds.RiskClass.{RiskClass}
use Rattle.simm_kinds.specs.declared.kinds.RiskClass.TheVariants as class
use Rattle.simm_rules.specs.Params.{Params}
use Rattle.simm_rules.specs.Sums.{total_by}
use Rattle.simm_rules.specs.Net.{Sensitivity}
use Rattle.simm_rules.specs.Risks.{Amount, select}
use Rattle.simm_rules.specs.declared.classes.CreditClass.{CreditClass}
use Rattle.simm_rules.specs.declared.classes.CreditClass.TheVariants.{Qualifying, NonQualifying}
use Rattle.simm_rules.specs.declared.classes.PricedClass.{PricedClass}
use Rattle.simm_rules.specs.declared.classes.PricedClass.TheVariants.{Equities, Commodities}
use Rattle.simm_rules.specs.Rates.{as_rate, as_rate_volatility, rate_weight}
use Rattle.simm_rules.specs.Credit.{as_credit, as_credit_volatility, credit_params}
use Rattle.simm_rules.specs.BaseCorrelation.{as_index}
use Rattle.simm_rules.specs.Priced.{as_price, as_price_volatility, priced_params}
use Rattle.simm_rules.specs.ForeignExchange.{as_currency, as_pair_volatility, fx_weight, fx_sigma}

-- the sum of the sizes of the amounts, each times a factor in ten-thousandths
abbrev pub size_by : {A : Type 0} → (A → ℤ) → List (Amount A) → ℤ
size_by factor amounts = total_by (λ a. pos (unsigned_abs a.amount) *ℤ factor a.of) amounts

abbrev pub credit_size : Params → CreditClass → List Sensitivity → ℤ
credit_size p class ss =
    total_by (λ b. size_by (λ point. (b.terms).weight) (select (as_credit class (b.terms).id) ss)) (credit_params p class).buckets

-- volatilities of credit weigh 1, and so do those of rates
abbrev pub credit_volatility_size : Params → CreditClass → List Sensitivity → ℤ
credit_volatility_size p class ss =
    total_by (λ b. size_by (λ point. pos 10000) (select (as_credit_volatility class (b.terms).id) ss)) (credit_params p class).buckets

abbrev pub price_size : Params → PricedClass → List Sensitivity → ℤ
price_size p class ss =
    total_by (λ b. size_by (λ name. (b.terms).weight) (select (as_price class (b.terms).id) ss)) (priced_params p class).buckets

abbrev pub price_volatility_size : Params → PricedClass → List Sensitivity → ℤ
price_volatility_size p class ss =
    total_by (λ b. size_by (λ name. b.sigma) (select (as_price_volatility class (b.terms).id) ss)) (priced_params p class).buckets

-- by risk weights, in ten-thousandths of a cent
abbrev pub delta_size : Params → List Sensitivity → RiskClass → ℤ
delta_size p ss class.IR = size_by (rate_weight p) (select as_rate ss)
delta_size p ss class.CreditQ = credit_size p Qualifying ss +ℤ size_by (λ index. p.base_weight) (select as_index ss)
delta_size p ss class.CreditNonQ = credit_size p NonQualifying ss
delta_size p ss class.Equity = price_size p Equities ss
delta_size p ss class.Commodity = price_size p Commodities ss
delta_size p ss class.FX = size_by (fx_weight p) (select as_currency ss)

-- by volatilities, in ten-thousandths of a cent
abbrev pub vega_size : Params → List Sensitivity → RiskClass → ℤ
vega_size p ss class.IR = size_by (λ v. pos 10000) (select as_rate_volatility ss)
vega_size p ss class.CreditQ = credit_volatility_size p Qualifying ss
vega_size p ss class.CreditNonQ = credit_volatility_size p NonQualifying ss
vega_size p ss class.Equity = price_volatility_size p Equities ss
vega_size p ss class.Commodity = price_volatility_size p Commodities ss
vega_size p ss class.FX = size_by (λ v. fx_sigma p v.pair) (select as_pair_volatility ss)

-- in cents, upwards
abbrev pub delta_gross : Params → List Sensitivity → RiskClass → ℤ
delta_gross p ss class = up (delta_size p ss class) (pos 10000)

abbrev pub vega_gross : Params → List Sensitivity → RiskClass → ℤ
vega_gross p ss class = up (vega_size p ss class) (pos 10000)
