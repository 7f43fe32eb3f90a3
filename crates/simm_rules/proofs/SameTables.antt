-- Tables are equal that have the same at each class.
use Rattle.std.proofs.Common.{◌≡◌}
use Rattle.simm_kinds.specs.declared.kinds.ProductClass.{ProductClass}
use Rattle.simm_kinds.specs.declared.kinds.ProductClass.TheVariants as product
use Rattle.simm_kinds.specs.declared.kinds.RiskClass.{RiskClass}
use Rattle.simm_kinds.specs.declared.kinds.RiskClass.TheVariants as class
use Rattle.simm_rules.specs.declared.tables.ByClass.{ByClass}
use Rattle.simm_rules.specs.declared.tables.ByProduct.{ByProduct}
use Rattle.simm_rules.specs.Tables.{class_at, product_at, part_at}

module _ {T : Type 0} where
  pub same_by_class : (a b : ByClass T) → ((c : RiskClass) → class_at a c ≡ class_at b c) → a ≡ b
  same_by_class a b same = λ i. record {
    ir = same class.IR i;
    credit_q = same class.CreditQ i;
    credit_nonq = same class.CreditNonQ i;
    equity = same class.Equity i;
    commodity = same class.Commodity i;
    fx = same class.FX i;
  }

  pub same_by_product : (a b : ByProduct T) → ((c : ProductClass) → product_at a c ≡ product_at b c) → a ≡ b
  same_by_product a b same = λ i. record {
    rates_fx = same product.RatesFX i;
    credit = same product.Credit i;
    equity = same product.Equity i;
    commodity = same product.Commodity i;
  }

module _ {T : Type 0} where
  pub same_by_part : (a b : ByProduct (ByClass T)) → ((c : ProductClass) (k : RiskClass) → part_at a c k ≡ part_at b c k) → a ≡ b
  same_by_part a b same = same_by_product a b (λ c. same_by_class (product_at a c) (product_at b c) (same c))
