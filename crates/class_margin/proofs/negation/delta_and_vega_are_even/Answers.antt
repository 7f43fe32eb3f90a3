use Rattle.class_rates.specs.SimmKinds.declared.kinds.RiskClass.{RiskClass}
use Rattle.class_rates.specs.SimmKinds.declared.kinds.RiskClass.TheVariants as class
use Rattle.class_rates.specs.SimmRules.Params.{Params}
use Rattle.class_rates.specs.SimmRules.declared.classes.CreditClass.TheVariants.{Qualifying, NonQualifying}
use Rattle.class_rates.specs.SimmRules.declared.classes.PricedClass.TheVariants.{Equities, Commodities}
use Rattle.negated_book.specs.Turned.{IsEven}
use Rattle.negated_book.proofs.RateClass.{rate_delta-even, rate_vega-even}
use Rattle.negated_book.proofs.CreditClasses.{credit_delta-even, credit_vega-even}
use Rattle.negated_book.proofs.PricedClasses.{price_delta-even, price_vega-even}
use Rattle.negated_book.proofs.ExchangeClass.{fx_delta-even, fx_vega-even}
use Rattle.class_margin.specs.delta.Class.{class_delta_of}
use Rattle.class_margin.specs.volatility.Vega.{class_vega_of}
use Rattle.class_margin.proofs.negation.delta_and_vega_are_even.Goals as goal

delta : (p : Params) (c : RiskClass) → IsEven (λ ss. class_delta_of p ss c)
delta p class.IR ss = rate_delta-even p ss
delta p class.CreditQ ss = credit_delta-even p.credit_q Qualifying ss
delta p class.CreditNonQ ss = credit_delta-even p.credit_nq NonQualifying ss
delta p class.Equity ss = price_delta-even p.equity Equities ss
delta p class.Commodity ss = price_delta-even p.commodity Commodities ss
delta p class.FX ss = fx_delta-even p ss

vega : (p : Params) (c : RiskClass) → IsEven (λ ss. class_vega_of p ss c)
vega p class.IR ss = rate_vega-even p ss
vega p class.CreditQ ss = credit_vega-even p.credit_q Qualifying ss
vega p class.CreditNonQ ss = credit_vega-even p.credit_nq NonQualifying ss
vega p class.Equity ss = price_vega-even p.equity Equities ss
vega p class.Commodity ss = price_vega-even p.commodity Commodities ss
vega p class.FX ss = fx_vega-even p ss

pub returns : goal.returns
returns c = record { delta = delta; vega = vega }
