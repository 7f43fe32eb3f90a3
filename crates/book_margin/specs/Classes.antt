-- The margins of the risk classes in each product class of a book, by its factors.
-- (ISDA SIMM methodology, structure: margins are per product class and risk class.)
use Rattle.std.specs.Prelude.{List, ℤ, pos}
use Rattle.std.specs.List.{filter}
use Rattle.kept_buckets.specs.SimmKinds.declared.kinds.ProductClass.{ProductClass}
use Rattle.kept_buckets.specs.SimmKinds.declared.kinds.RiskClass.{RiskClass}
use Rattle.kept_buckets.specs.SimmKinds.declared.kinds.RiskClass.TheVariants as class
use Rattle.kept_buckets.specs.SimmKinds.declared.key.FactorKey.{FactorKey}
use Rattle.kept_buckets.specs.MhUnits.declared.quantities.Cents.{Cents}
use Rattle.kept_buckets.specs.SimmRules.declared.tables.ByClass.{ByClass}
use Rattle.kept_buckets.specs.SimmRules.declared.tables.ByProduct.{ByProduct}
use Rattle.kept_buckets.specs.SimmRules.Tables.{class_table, product_table}
use Rattle.kept_buckets.specs.SimmRules.Params.{Params}
use Rattle.kept_buckets.specs.SimmRules.Parts.{cents}
use Rattle.kept_buckets.specs.SimmRules.Net.{Sensitivity}
use Rattle.kept_buckets.specs.SimmRules.BaseCorrelation.{base_margin}
use Rattle.kept_buckets.specs.SimmRules.Simm.{class_margin_of}
use Rattle.kept_buckets.specs.FactorBook.declared.holding.Holding.{Holding}
use Rattle.class_margin.specs.names_delta.Values.{nets_in}
use Rattle.kept_buckets.specs.Touched.{is_of_class}

-- the part of base correlation, which is margined in qualifying credit alone
abbrev pub base_of : Params → List Sensitivity → RiskClass → ℤ
base_of p ss class.IR = pos 0
base_of p ss class.CreditQ = base_margin p ss
base_of p ss class.CreditNonQ = pos 0
base_of p ss class.Equity = pos 0
base_of p ss class.Commodity = pos 0
base_of p ss class.FX = pos 0

-- of the netted sensitivities of a product class
abbrev pub classes_of : Params → List Sensitivity → ByClass Cents
classes_of p ss = class_table (λ class. cents (class_margin_of p ss class))

abbrev pub classes_at : Params → List (FactorKey × Holding) → ProductClass → ByClass Cents
classes_at p factors product = classes_of p (nets_in product factors)

abbrev pub products_of : Params → List (FactorKey × Holding) → ByProduct (ByClass Cents)
products_of p factors = product_table (classes_at p factors)

-- the factors of a risk class in a product class, on both sides
abbrev pub class_factors : ProductClass → RiskClass → List (FactorKey × Holding) → List (FactorKey × Holding)
class_factors product class factors = filter (λ f. is_of_class product class f.0) factors
