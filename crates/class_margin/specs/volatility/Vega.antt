-- The vega margin of a risk class in a product class.
-- (ISDA SIMM methodology, vega margin.)
use Rattle.std.specs.Prelude.{List, ℤ}
use Rattle.class_rates.specs.SimmKinds.declared.kinds.RiskClass.{RiskClass}
use Rattle.class_rates.specs.SimmKinds.declared.kinds.RiskClass.TheVariants as class
use Rattle.class_rates.specs.SimmRules.Params.{Params}
use Rattle.class_rates.specs.SimmRules.Net.{Sensitivity}
use Rattle.class_rates.specs.SimmRules.declared.classes.CreditClass.TheVariants.{Qualifying, NonQualifying}
use Rattle.class_rates.specs.SimmRules.declared.classes.PricedClass.TheVariants.{Equities, Commodities}
use Rattle.class_rates.specs.SimmRules.Rates.{rate_vega}
use Rattle.class_rates.specs.SimmRules.Credit.{credit_vega}
use Rattle.class_rates.specs.SimmRules.Priced.{price_vega}
use Rattle.class_rates.specs.SimmRules.ForeignExchange.{fx_vega}

-- of the sensitivities of the product class
abbrev pub class_vega_of : Params → List Sensitivity → RiskClass → ℤ
class_vega_of p ss class.IR = rate_vega p ss
class_vega_of p ss class.CreditQ = credit_vega p.credit_q Qualifying ss
class_vega_of p ss class.CreditNonQ = credit_vega p.credit_nq NonQualifying ss
class_vega_of p ss class.Equity = price_vega p.equity Equities ss
class_vega_of p ss class.Commodity = price_vega p.commodity Commodities ss
class_vega_of p ss class.FX = fx_vega p ss
