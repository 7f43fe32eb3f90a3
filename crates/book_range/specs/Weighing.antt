-- How the factors of a place weigh: all alike where their class has buckets that files list, or each by its own rate.
use Rattle.std.specs.Prelude.{◌^◌, ◌≤◌, ⊤, ℤ, pos, unsigned_abs}
use Rattle.simm_params.specs.SimmKinds.declared.factor.Factor.{Factor}
use Rattle.simm_params.specs.SimmKinds.declared.factor.Factor.TheVariants as factor
use Rattle.simm_params.specs.SimmRules.Params.{Params}
use Rattle.simm_params.specs.SimmRules.Risks.{Curve, Inflation, Basis}
use Rattle.simm_params.specs.SimmRules.Rates.{rate_weight}
use Rattle.simm_params.specs.SimmRules.ForeignExchange.{fx_weight, fx_sigma}
use Rattle.factor_book.specs.declared.place.Stand.{Stand}
use Rattle.factor_book.specs.declared.place.Stand.TheVariants as stand
use Rattle.factor_book.specs.declared.slot.Slot.{Slot}
use Rattle.factor_book.specs.declared.slot.Slot.TheVariants as slot
use Rattle.book_range.specs.declared.weighing.Weighing.{Weighing}
use Rattle.book_range.specs.declared.weighing.Weighing.TheVariants as weighing
use Rattle.book_range.specs.Weights.{credit_weight, credit_volatility, price_weight, price_volatility}

-- the weight of a factor of which each has its own
abbrev pub own_weight : Params → Factor → ℤ
own_weight p (factor.IrCurve c t s) = rate_weight p (record { currency = c; rate = Curve t s })
own_weight p (factor.Inflation c) = rate_weight p (record { currency = c; rate = Inflation })
own_weight p (factor.XccyBasis c) = rate_weight p (record { currency = c; rate = Basis })
own_weight p (factor.IrVol c t) = pos 0
own_weight p (factor.InflationVol c t) = pos 0
own_weight p (factor.CreditQ i b t l) = pos 0
own_weight p (factor.CreditVol i b t l) = pos 0
own_weight p (factor.CreditNonQ i b t l) = pos 0
own_weight p (factor.CreditVolNonQ i b t l) = pos 0
own_weight p (factor.BaseCorr i) = pos 0
own_weight p (factor.Equity i b) = pos 0
own_weight p (factor.EquityVol i b t) = pos 0
own_weight p (factor.Commodity n b) = pos 0
own_weight p (factor.CommodityVol n b t) = pos 0
own_weight p (factor.Fx c) = fx_weight p c
own_weight p (factor.FxVol pair t) = fx_sigma p pair

abbrev pub weight_in : Params → Weighing → Factor → ℤ
weight_in p (weighing.Alike w) f = w.0
weight_in p weighing.Own f = own_weight p f

-- that of a factor of delta of a bucket
abbrev pub delta_weight : Params → Slot → Factor → ℤ
delta_weight p (slot.Rates currency) f = own_weight p f
delta_weight p (slot.Credit class b) f = credit_weight p class b
delta_weight p (slot.Priced class b) f = price_weight p class b
delta_weight p slot.Exchange f = own_weight p f

-- and of a volatility
abbrev pub volatility_weight : Params → Slot → Factor → ℤ
volatility_weight p (slot.Rates currency) f = pos 10000
volatility_weight p (slot.Credit class b) f = credit_volatility p class b
volatility_weight p (slot.Priced class b) f = price_volatility p class b
volatility_weight p slot.Exchange f = own_weight p f

-- what a factor of a place weighs
abbrev pub weight_at : Params → Stand → Factor → ℤ
weight_at p (stand.Delta slot) f = delta_weight p slot f
weight_at p stand.BaseCorrelation f = p.base_weight
weight_at p (stand.Volatility slot) f = volatility_weight p slot f

-- a weight that a file can have
abbrev pub IsLow : Weighing → Type 0
IsLow (weighing.Alike w) = unsigned_abs w.0 ≤ 10 ^ 8
IsLow weighing.Own = ⊤
