-- The words of the kinds in files and printed text.
use Rattle.std.specs.Prelude.{ℕ, List, [], ◌∷◌, Option, Some, ◌||◌, codes, if◌then◌else◌}
use Rattle.std.specs.List.{find}
use Rattle.simm_kinds.specs.declared.kinds.ProductClass.{ProductClass}
use Rattle.simm_kinds.specs.declared.kinds.ProductClass.TheVariants as product
use Rattle.simm_kinds.specs.declared.kinds.RiskClass.{RiskClass}
use Rattle.simm_kinds.specs.declared.kinds.RiskClass.TheVariants as class
use Rattle.simm_kinds.specs.declared.kinds.RiskType.{RiskType}
use Rattle.simm_kinds.specs.declared.kinds.RiskType.TheVariants as kind
use Rattle.simm_kinds.specs.declared.kinds.SubCurve.{SubCurve}
use Rattle.simm_kinds.specs.declared.kinds.SubCurve.TheVariants as sub
use Rattle.simm_kinds.specs.Words.{is_word}

-- ---- product classes

abbrev pub product_word : ProductClass → List ℕ
product_word product.RatesFX = codes "RatesFX"
product_word product.Credit = codes "Credit"
product_word product.Equity = codes "Equity"
product_word product.Commodity = codes "Commodity"

abbrev pub all_products : List ProductClass
all_products =
    product.RatesFX ∷ product.Credit ∷ product.Equity ∷ product.Commodity ∷ []

-- the word in any case; rates and exchange rates are one class
abbrev pub product_named : List ℕ → Option ProductClass
product_named text =
    if is_word (codes "Rates") text || is_word (codes "FX") text then Some product.RatesFX
    else find (λ p. is_word (product_word p) text) all_products

-- ---- risk classes

abbrev pub class_word : RiskClass → List ℕ
class_word class.IR = codes "IR"
class_word class.CreditQ = codes "CreditQ"
class_word class.CreditNonQ = codes "CreditNonQ"
class_word class.Equity = codes "Equity"
class_word class.Commodity = codes "Commodity"
class_word class.FX = codes "FX"

abbrev pub all_classes : List RiskClass
all_classes =
    class.IR ∷ class.CreditQ ∷ class.CreditNonQ ∷ class.Equity ∷ class.Commodity ∷ class.FX ∷ []

-- the word in any case
abbrev pub class_named : List ℕ → Option RiskClass
class_named text = find (λ c. is_word (class_word c) text) all_classes

-- ---- risk types

abbrev pub kind_word : RiskType → List ℕ
kind_word kind.IrCurve = codes "Risk_IRCurve"
kind_word kind.Inflation = codes "Risk_Inflation"
kind_word kind.XccyBasis = codes "Risk_XCcyBasis"
kind_word kind.IrVol = codes "Risk_IRVol"
kind_word kind.InflationVol = codes "Risk_InflationVol"
kind_word kind.CreditQ = codes "Risk_CreditQ"
kind_word kind.CreditVol = codes "Risk_CreditVol"
kind_word kind.CreditNonQ = codes "Risk_CreditNonQ"
kind_word kind.CreditVolNonQ = codes "Risk_CreditVolNonQ"
kind_word kind.BaseCorr = codes "Risk_BaseCorr"
kind_word kind.Equity = codes "Risk_Equity"
kind_word kind.EquityVol = codes "Risk_EquityVol"
kind_word kind.Commodity = codes "Risk_Commodity"
kind_word kind.CommodityVol = codes "Risk_CommodityVol"
kind_word kind.Fx = codes "Risk_FX"
kind_word kind.FxVol = codes "Risk_FXVol"
kind_word kind.Notional = codes "Notional"
kind_word kind.AddOnNotionalFactor = codes "Param_AddOnNotionalFactor"
kind_word kind.AddOnFixedAmount = codes "Param_AddOnFixedAmount"
kind_word kind.ProductClassMultiplier = codes "Param_ProductClassMultiplier"
kind_word kind.Pv = codes "PV"

abbrev pub all_kinds : List RiskType
all_kinds =
    kind.IrCurve ∷ kind.Inflation ∷ kind.XccyBasis ∷ kind.IrVol ∷ kind.InflationVol ∷ kind.CreditQ ∷ kind.CreditVol ∷
    kind.CreditNonQ ∷ kind.CreditVolNonQ ∷ kind.BaseCorr ∷ kind.Equity ∷ kind.EquityVol ∷ kind.Commodity ∷
    kind.CommodityVol ∷ kind.Fx ∷ kind.FxVol ∷ kind.Notional ∷ kind.AddOnNotionalFactor ∷ kind.AddOnFixedAmount ∷
    kind.ProductClassMultiplier ∷ kind.Pv ∷ []

-- the word in any case
abbrev pub kind_named : List ℕ → Option RiskType
kind_named text = find (λ k. is_word (kind_word k) text) all_kinds

-- ---- sub-curves

abbrev pub sub_word : SubCurve → List ℕ
sub_word sub.Ois = codes "OIS"
sub_word sub.Libor1m = codes "Libor1m"
sub_word sub.Libor3m = codes "Libor3m"
sub_word sub.Libor6m = codes "Libor6m"
sub_word sub.Libor12m = codes "Libor12m"
sub_word sub.Prime = codes "Prime"
sub_word sub.Municipal = codes "Municipal"

abbrev pub all_subs : List SubCurve
all_subs =
    sub.Ois ∷ sub.Libor1m ∷ sub.Libor3m ∷ sub.Libor6m ∷ sub.Libor12m ∷ sub.Prime ∷ sub.Municipal ∷ []

-- the word in any case
abbrev pub sub_named : List ℕ → Option SubCurve
sub_named text = find (λ s. is_word (sub_word s) text) all_subs
