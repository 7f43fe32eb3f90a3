-- Which rows the parameters admit: those whose bucket they list.
use Rattle.std.specs.Prelude.{List, Bool, true}
use Rattle.std.specs.List.{list_any}
use Rattle.simm_kinds.specs.declared.bucket.Bucket.{Bucket}
use Rattle.simm_kinds.specs.declared.bucket.Bucket.TheVariants as bucket
use Rattle.simm_kinds.specs.declared.factor.Factor.{Factor}
use Rattle.simm_kinds.specs.declared.factor.Factor.TheVariants as factor
use Rattle.simm_kinds.specs.declared.row.CrifRow.{CrifRow}
use Rattle.simm_kinds.specs.declared.row.CrifRow.TheVariants as row
use Rattle.simm_kinds.specs.Order.{same_bucket}
use Rattle.simm_rules.specs.Params.{Params}
use Rattle.simm_rules.specs.Credit.{listed_credit}
use Rattle.simm_rules.specs.Priced.{listed_priced}

abbrev pub lists : List Bucket → Bucket → Bool
lists listed b = list_any (same_bucket b) listed

-- currencies, pairs and index families have no bucket that a file lists
abbrev pub admits_factor : Params → Factor → Bool
admits_factor p (factor.IrCurve currency tenor sub) = true
admits_factor p (factor.Inflation currency) = true
admits_factor p (factor.XccyBasis currency) = true
admits_factor p (factor.IrVol currency tenor) = true
admits_factor p (factor.InflationVol currency tenor) = true
admits_factor p (factor.CreditQ issuer b tenor label) = lists (listed_credit p.credit_q) b
admits_factor p (factor.CreditVol issuer b tenor label) = lists (listed_credit p.credit_q) b
admits_factor p (factor.CreditNonQ issuer b tenor label) = lists (listed_credit p.credit_nq) b
admits_factor p (factor.CreditVolNonQ issuer b tenor label) = lists (listed_credit p.credit_nq) b
admits_factor p (factor.BaseCorr index) = true
admits_factor p (factor.Equity issuer b) = lists (listed_priced p.equity) b
admits_factor p (factor.EquityVol issuer b tenor) = lists (listed_priced p.equity) b
admits_factor p (factor.Commodity name b) = lists (listed_priced p.commodity) (bucket.Number b)
admits_factor p (factor.CommodityVol name b tenor) = lists (listed_priced p.commodity) (bucket.Number b)
admits_factor p (factor.Fx currency) = true
admits_factor p (factor.FxVol pair tenor) = true

abbrev pub admits : Params → CrifRow → Bool
admits p (row.Sensitivity key amount) = admits_factor p key.factor
admits p (row.Notional qualifier amount) = true
admits p (row.FixedAmount amount) = true
admits p (row.NotionalFactor qualifier factor) = true
admits p (row.Multiplier product factor) = true
