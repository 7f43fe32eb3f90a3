-- The delta margin of a risk class in a product class.
-- (ISDA SIMM methodology, delta margin.)
use Rattle.std.specs.Prelude.{List, ℤ}
use Rattle.class_rates.specs.SimmKinds.declared.kinds.RiskClass.{RiskClass}
use Rattle.class_rates.specs.SimmKinds.declared.kinds.RiskClass.TheVariants as class
use Rattle.class_rates.specs.SimmRules.Params.{Params}
use Rattle.class_rates.specs.SimmRules.Net.{Sensitivity}
use Rattle.class_rates.specs.SimmRules.declared.classes.CreditClass.TheVariants.{Qualifying, NonQualifying}
use Rattle.class_rates.specs.SimmRules.declared.classes.PricedClass.TheVariants.{Equities, Commodities}
use Rattle.class_rates.specs.SimmRules.Rates.{rate_delta}
use Rattle.class_rates.specs.SimmRules.Credit.{credit_delta}
use Rattle.class_rates.specs.SimmRules.Priced.{price_delta}
use Rattle.class_rates.specs.SimmRules.ForeignExchange.{fx_delta}

-- of the sensitivities of the product class
abbrev pub class_delta_of : Params → List Sensitivity → RiskClass → ℤ
class_delta_of p ss class.IR = rate_delta p ss
class_delta_of p ss class.CreditQ = credit_delta p.credit_q Qualifying ss
class_delta_of p ss class.CreditNonQ = credit_delta p.credit_nq NonQualifying ss
class_delta_of p ss class.Equity = price_delta p.equity Equities ss
class_delta_of p ss class.Commodity = price_delta p.commodity Commodities ss
class_delta_of p ss class.FX = fx_delta p ss
