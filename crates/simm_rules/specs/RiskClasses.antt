-- The two classes of credit, and the two classes of names that have a price, among all risk classes.
-- (ISDA SIMM methodology, structure: six risk classes.)
use Rattle.simm_kinds.specs.declared.kinds.RiskClass.{RiskClass}
use Rattle.simm_kinds.specs.declared.kinds.RiskClass.TheVariants as class
use Rattle.simm_rules.specs.declared.classes.CreditClass.{CreditClass}
use Rattle.simm_rules.specs.declared.classes.CreditClass.TheVariants.{Qualifying, NonQualifying}
use Rattle.simm_rules.specs.declared.classes.PricedClass.{PricedClass}
use Rattle.simm_rules.specs.declared.classes.PricedClass.TheVariants.{Equities, Commodities}

abbrev pub credit_risk_class : CreditClass → RiskClass
credit_risk_class Qualifying = class.CreditQ
credit_risk_class NonQualifying = class.CreditNonQ

abbrev pub priced_risk_class : PricedClass → RiskClass
priced_risk_class Equities = class.Equity
priced_risk_class Commodities = class.Commodity
