-- Tables by risk class and by product class.
-- (ISDA SIMM methodology, structure: product classes, and the risk classes in each.)
use Rattle.simm_kinds.specs.declared.kinds.ProductClass.{ProductClass}
use Rattle.simm_kinds.specs.declared.kinds.ProductClass.TheVariants as product
use Rattle.simm_kinds.specs.declared.kinds.RiskClass.{RiskClass}
use Rattle.simm_kinds.specs.declared.kinds.RiskClass.TheVariants as class
use Rattle.simm_rules.specs.declared.tables.ByClass.{ByClass}
use Rattle.simm_rules.specs.declared.tables.ByProduct.{ByProduct}

abbrev pub class_at : {T : Type 0} → ByClass T → RiskClass → T
class_at table class.IR = table.ir
class_at table class.CreditQ = table.credit_q
class_at table class.CreditNonQ = table.credit_nonq
class_at table class.Equity = table.equity
class_at table class.Commodity = table.commodity
class_at table class.FX = table.fx

-- the table of what each class has
abbrev pub class_table : {T : Type 0} → (RiskClass → T) → ByClass T
class_table its = record {
  ir = its class.IR;
  credit_q = its class.CreditQ;
  credit_nonq = its class.CreditNonQ;
  equity = its class.Equity;
  commodity = its class.Commodity;
  fx = its class.FX;
}

abbrev pub product_at : {T : Type 0} → ByProduct T → ProductClass → T
product_at table product.RatesFX = table.rates_fx
product_at table product.Credit = table.credit
product_at table product.Equity = table.equity
product_at table product.Commodity = table.commodity

abbrev pub product_table : {T : Type 0} → (ProductClass → T) → ByProduct T
product_table its = record {
  rates_fx = its product.RatesFX;
  credit = its product.Credit;
  equity = its product.Equity;
  commodity = its product.Commodity;
}

-- ---- by both

-- that of a risk class in a product class
abbrev pub part_at : {T : Type 0} → ByProduct (ByClass T) → ProductClass → RiskClass → T
part_at table product class = class_at (product_at table product) class

abbrev pub part_table : {T : Type 0} → (ProductClass → RiskClass → T) → ByProduct (ByClass T)
part_table its = product_table (λ product. class_table (its product))
