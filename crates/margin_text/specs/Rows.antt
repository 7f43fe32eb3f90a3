-- The lines of a submit's trades: each trade, and its rows under it.
use Rattle.std.specs.Prelude.{ℕ, List, [], ◌++◌, length, codes, decimal}
use Rattle.std.specs.Fmt.{signed_decimal}
use Rattle.std.specs.List.{flat_map}
use Rattle.mh_units.specs.Money.{money_text}
use Rattle.simm_kinds.specs.declared.kinds.ProductClass.{ProductClass}
use Rattle.simm_kinds.specs.declared.kinds.ProductClass.TheVariants as product
use Rattle.simm_kinds.specs.declared.kinds.RiskType.{RiskType}
use Rattle.simm_kinds.specs.declared.kinds.RiskType.TheVariants as kind
use Rattle.simm_kinds.specs.declared.row.CrifRow.{CrifRow}
use Rattle.simm_kinds.specs.declared.row.CrifRow.TheVariants as row
use Rattle.simm_kinds.specs.declared.row.TradeRows.{TradeRows}
use Rattle.simm_kinds.specs.Kinds.{product_word, kind_word}
use Rattle.simm_kinds.specs.Factors.{kind_of}
use Rattle.breakdown_text.specs.Factors.{parts, factor_fields}
use Rattle.fault_text.specs.Fields.{field, last_field}

-- the product class and the risk type of a row
abbrev pub row_start : ProductClass → RiskType → List ℕ
row_start product kind = field (codes "ROW") ++ field (product_word product) ++ field (kind_word kind)

-- what is added on belongs to no product class but a multiplier, and is printed as of rates and foreign exchange; its
-- amount, or a whole number of ten-thousandths
abbrev pub row_line : CrifRow → List ℕ
row_line (row.Sensitivity key amount) =
    row_start key.product (kind_of key.factor) ++ factor_fields key.factor ++ last_field (money_text amount.0)
row_line (row.Notional qualifier amount) =
    row_start product.RatesFX kind.Notional ++ parts qualifier [] [] [] [] ++ last_field (money_text amount.0)
row_line (row.FixedAmount amount) =
    row_start product.RatesFX kind.AddOnFixedAmount ++ parts [] [] [] [] [] ++ last_field (money_text amount.0)
row_line (row.NotionalFactor qualifier factor) =
    row_start product.RatesFX kind.AddOnNotionalFactor ++ parts qualifier [] [] [] [] ++ last_field (signed_decimal factor.0)
row_line (row.Multiplier product factor) =
    row_start product kind.ProductClassMultiplier ++ parts [] [] [] [] [] ++ last_field (signed_decimal factor.0)

abbrev pub trade_lines : TradeRows → List ℕ
trade_lines t =
    field (codes "TRADE") ++ field t.trade ++ last_field (decimal (length t.rows)) ++ flat_map row_line t.rows
