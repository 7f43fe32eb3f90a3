-- What a risk factor is a factor of: its risk type, class, side and bucket.
use Rattle.std.specs.Prelude.{Option, Some, None}
use Rattle.simm_kinds.specs.declared.kinds.RiskType.{RiskType}
use Rattle.simm_kinds.specs.declared.kinds.RiskType.TheVariants as kind
use Rattle.simm_kinds.specs.declared.kinds.RiskClass.{RiskClass}
use Rattle.simm_kinds.specs.declared.kinds.RiskClass.TheVariants as class
use Rattle.simm_kinds.specs.declared.kinds.Side.{Side}
use Rattle.simm_kinds.specs.declared.kinds.Side.TheVariants as side
use Rattle.simm_kinds.specs.declared.kinds.BucketId.{BucketId}
use Rattle.simm_kinds.specs.declared.kinds.BucketId.TheVariants as id
use Rattle.simm_kinds.specs.declared.bucket.Bucket.{Bucket}
use Rattle.simm_kinds.specs.declared.bucket.Bucket.TheVariants as bucket
use Rattle.simm_kinds.specs.declared.factor.Factor.{Factor}
use Rattle.simm_kinds.specs.declared.factor.Factor.TheVariants as factor

abbrev pub kind_of : Factor → RiskType
kind_of (factor.IrCurve c t s) = kind.IrCurve
kind_of (factor.Inflation c) = kind.Inflation
kind_of (factor.XccyBasis c) = kind.XccyBasis
kind_of (factor.IrVol c t) = kind.IrVol
kind_of (factor.InflationVol c t) = kind.InflationVol
kind_of (factor.CreditQ i b t l) = kind.CreditQ
kind_of (factor.CreditVol i b t l) = kind.CreditVol
kind_of (factor.CreditNonQ i b t l) = kind.CreditNonQ
kind_of (factor.CreditVolNonQ i b t l) = kind.CreditVolNonQ
kind_of (factor.BaseCorr i) = kind.BaseCorr
kind_of (factor.Equity i b) = kind.Equity
kind_of (factor.EquityVol i b t) = kind.EquityVol
kind_of (factor.Commodity n b) = kind.Commodity
kind_of (factor.CommodityVol n b t) = kind.CommodityVol
kind_of (factor.Fx c) = kind.Fx
kind_of (factor.FxVol p t) = kind.FxVol

-- the risk class of sensitivities to a factor (structure of the methodology: six risk classes)
abbrev pub class_of : Factor → RiskClass
class_of (factor.IrCurve c t s) = class.IR
class_of (factor.Inflation c) = class.IR
class_of (factor.XccyBasis c) = class.IR
class_of (factor.IrVol c t) = class.IR
class_of (factor.InflationVol c t) = class.IR
class_of (factor.CreditQ i b t l) = class.CreditQ
class_of (factor.CreditVol i b t l) = class.CreditQ
class_of (factor.CreditNonQ i b t l) = class.CreditNonQ
class_of (factor.CreditVolNonQ i b t l) = class.CreditNonQ
class_of (factor.BaseCorr i) = class.CreditQ
class_of (factor.Equity i b) = class.Equity
class_of (factor.EquityVol i b t) = class.Equity
class_of (factor.Commodity n b) = class.Commodity
class_of (factor.CommodityVol n b t) = class.Commodity
class_of (factor.Fx c) = class.FX
class_of (factor.FxVol p t) = class.FX

-- whether a sensitivity is to a value, to its volatility or to a base correlation (structure of the methodology: delta,
-- vega and curvature, base correlation)
abbrev pub side_of : Factor → Side
side_of (factor.IrCurve c t s) = side.Delta
side_of (factor.Inflation c) = side.Delta
side_of (factor.XccyBasis c) = side.Delta
side_of (factor.IrVol c t) = side.Volatility
side_of (factor.InflationVol c t) = side.Volatility
side_of (factor.CreditQ i b t l) = side.Delta
side_of (factor.CreditVol i b t l) = side.Volatility
side_of (factor.CreditNonQ i b t l) = side.Delta
side_of (factor.CreditVolNonQ i b t l) = side.Volatility
side_of (factor.BaseCorr i) = side.BaseCorr
side_of (factor.Equity i b) = side.Delta
side_of (factor.EquityVol i b t) = side.Volatility
side_of (factor.Commodity n b) = side.Delta
side_of (factor.CommodityVol n b t) = side.Volatility
side_of (factor.Fx c) = side.Delta
side_of (factor.FxVol p t) = side.Volatility

abbrev pub bucket_id_of : Bucket → BucketId
bucket_id_of (bucket.Number n) = id.Number n
bucket_id_of bucket.Residual = id.Residual

-- the bucket of an id, among those that files list; interest rates have a bucket for each currency, and others a single one
abbrev pub listed_id : BucketId → Option Bucket
listed_id (id.Number n) = Some (bucket.Number n)
listed_id id.Residual = Some bucket.Residual
listed_id (id.Currency currency) = None
listed_id id.Single = None

-- the bucket that sensitivities to a factor are summed in (delta margin: the buckets of each risk class): an interest rate's
-- is its currency, and exchange rates and base correlations have one
abbrev pub bucket_of : Factor → BucketId
bucket_of (factor.IrCurve c t s) = id.Currency c
bucket_of (factor.Inflation c) = id.Currency c
bucket_of (factor.XccyBasis c) = id.Currency c
bucket_of (factor.IrVol c t) = id.Currency c
bucket_of (factor.InflationVol c t) = id.Currency c
bucket_of (factor.CreditQ i b t l) = bucket_id_of b
bucket_of (factor.CreditVol i b t l) = bucket_id_of b
bucket_of (factor.CreditNonQ i b t l) = bucket_id_of b
bucket_of (factor.CreditVolNonQ i b t l) = bucket_id_of b
bucket_of (factor.BaseCorr i) = id.Single
bucket_of (factor.Equity i b) = bucket_id_of b
bucket_of (factor.EquityVol i b t) = bucket_id_of b
bucket_of (factor.Commodity n b) = id.Number b
bucket_of (factor.CommodityVol n b t) = id.Number b
bucket_of (factor.Fx c) = id.Single
bucket_of (factor.FxVol p t) = id.Single
