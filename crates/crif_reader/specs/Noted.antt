-- What is noted of parameters, so that a repeated one is found by one look-up.
use Rattle.std.specs.Prelude.{◌≡◌, ℕ, List, Bool, true}
use Rattle.std.specs.List.{list_any, flat_map}
use Rattle.std.specs.BTreeSet.{contains}
use Rattle.crif_records.specs.SimmKinds.declared.kinds.ProductClass.{ProductClass}
use Rattle.crif_records.specs.SimmKinds.declared.kinds.ProductClass.TheVariants as product
use Rattle.crif_records.specs.SimmKinds.declared.row.CrifRow.{CrifRow}
use Rattle.crif_records.specs.SimmKinds.Batch.{factor_names, multiplied}
use Rattle.crif_records.specs.SimmKinds.Order.{name_cmp, same_name, same_product}
use Rattle.crif_reader.specs.declared.params.Multipliers.{Multipliers}
use Rattle.crif_reader.specs.declared.params.Params.{Params}

abbrev pub has_multiplier : Multipliers → ProductClass → Bool
has_multiplier m product.RatesFX = m.rates_fx
has_multiplier m product.Credit = m.credit
has_multiplier m product.Equity = m.equity
has_multiplier m product.Commodity = m.commodity

abbrev pub with_multiplier : Multipliers → ProductClass → Multipliers
with_multiplier m product.RatesFX = record { rates_fx = true; credit = m.credit; equity = m.equity; commodity = m.commodity }
with_multiplier m product.Credit = record { rates_fx = m.rates_fx; credit = true; equity = m.equity; commodity = m.commodity }
with_multiplier m product.Equity = record { rates_fx = m.rates_fx; credit = m.credit; equity = true; commodity = m.commodity }
with_multiplier m product.Commodity = record { rates_fx = m.rates_fx; credit = m.credit; equity = m.equity; commodity = true }

-- the qualifiers of the factors among the rows, and the product classes of the multipliers, and no others
pub record IsNoted (params : Params) (rows : List CrifRow) : Type 0 where
  pub factors : (name : List ℕ) → contains name_cmp params.factors name ≡ list_any (same_name name) (flat_map factor_names rows)
  pub multipliers : (class : ProductClass) → has_multiplier params.multipliers class ≡ list_any (same_product class) (flat_map multiplied rows)
