-- Where a factor stands in a book: the factors of one product class that stand together there.
-- (ISDA SIMM methodology, structure of the methodology: product classes; buckets of the risk classes; base correlation.)
use Rattle.std.specs.Prelude.{Bool, Option, Some, None, option_map}
use Rattle.std.specs.Ordering.{is_eq}
use Rattle.std.specs.declared.cmp.Ordering.{Ordering}
use Rattle.simm_rules.specs.SimmKinds.declared.kinds.Measure.{Measure}
use Rattle.simm_rules.specs.SimmKinds.declared.kinds.Measure.TheVariants as measure
use Rattle.simm_rules.specs.SimmKinds.declared.kinds.ProductClass.{ProductClass}
use Rattle.simm_rules.specs.SimmKinds.declared.kinds.RiskClass.{RiskClass}
use Rattle.simm_rules.specs.SimmKinds.declared.kinds.RiskClass.TheVariants as class
use Rattle.simm_rules.specs.SimmKinds.declared.kinds.BucketId.{BucketId}
use Rattle.simm_rules.specs.SimmKinds.declared.kinds.BucketId.TheVariants as id
use Rattle.simm_rules.specs.SimmKinds.declared.key.FactorKey.{FactorKey}
use Rattle.simm_rules.specs.SimmKinds.Factors.{bucket_id_of, listed_id}
use Rattle.simm_rules.specs.declared.classes.CreditClass.{CreditClass}
use Rattle.simm_rules.specs.declared.classes.CreditClass.TheVariants as credit
use Rattle.simm_rules.specs.declared.classes.PricedClass.{PricedClass}
use Rattle.simm_rules.specs.declared.classes.PricedClass.TheVariants as priced
use Rattle.simm_rules.specs.RiskClasses.{credit_risk_class, priced_risk_class}
use Rattle.simm_rules.specs.Risks.{Risk, risk, Of_rate, Of_rate_volatility, Of_credit, Of_credit_volatility, Of_base_correlation, Of_price, Of_price_volatility, Of_currency, Of_pair_volatility}
use Rattle.factor_book.specs.declared.address.Address.{Address}
use Rattle.factor_book.specs.declared.place.BookSide.{BookSide}
use Rattle.factor_book.specs.declared.place.BookSide.TheVariants as book
use Rattle.factor_book.specs.declared.place.Place.{Place}
use Rattle.factor_book.specs.declared.place.Stand.{Stand}
use Rattle.factor_book.specs.declared.place.Stand.TheVariants as stand
use Rattle.factor_book.specs.declared.slot.Slot.{Slot}
use Rattle.factor_book.specs.declared.slot.Slot.TheVariants as slot
use Rattle.factor_book.specs.Address.{address_cmp}

-- ---- of a key

-- each sort of risk stands in its bucket, values apart from their volatilities
abbrev pub stand_of : Risk → Stand
stand_of (Of_rate currency rate) = stand.Delta (slot.Rates currency)
stand_of (Of_rate_volatility currency v) = stand.Volatility (slot.Rates currency)
stand_of (Of_credit class at point) = stand.Delta (slot.Credit class at)
stand_of (Of_credit_volatility class at point) = stand.Volatility (slot.Credit class at)
stand_of (Of_base_correlation index) = stand.BaseCorrelation
stand_of (Of_price class at name) = stand.Delta (slot.Priced class at)
stand_of (Of_price_volatility class at name tenor) = stand.Volatility (slot.Priced class at)
stand_of (Of_currency currency) = stand.Delta slot.Exchange
stand_of (Of_pair_volatility pair tenor) = stand.Volatility slot.Exchange

abbrev pub place_of : FactorKey → Place
place_of k = record { product = k.product; stand = stand_of (risk k.factor) }

-- ---- its class, side and bucket

abbrev pub slot_class : Slot → RiskClass
slot_class (slot.Rates currency) = class.IR
slot_class (slot.Credit class at) = credit_risk_class class
slot_class (slot.Priced class at) = priced_risk_class class
slot_class slot.Exchange = class.FX

abbrev pub slot_bucket : Slot → BucketId
slot_bucket (slot.Rates currency) = id.Currency currency
slot_bucket (slot.Credit class at) = bucket_id_of at
slot_bucket (slot.Priced class at) = bucket_id_of at
slot_bucket slot.Exchange = id.Single

abbrev pub stand_class : Stand → RiskClass
stand_class (stand.Delta slot) = slot_class slot
stand_class stand.BaseCorrelation = class.CreditQ
stand_class (stand.Volatility slot) = slot_class slot

abbrev pub stand_side : Stand → BookSide
stand_side (stand.Delta slot) = book.Delta
stand_side stand.BaseCorrelation = book.Delta
stand_side (stand.Volatility slot) = book.Volatility

abbrev pub stand_bucket : Stand → BucketId
stand_bucket (stand.Delta slot) = slot_bucket slot
stand_bucket stand.BaseCorrelation = id.Single
stand_bucket (stand.Volatility slot) = slot_bucket slot

-- ---- the order of places

-- what it is sorted by
abbrev pub address_of : Place → Address
address_of place = record {
  product = place.product;
  class = stand_class place.stand;
  side = stand_side place.stand;
  bucket = stand_bucket place.stand;
}

abbrev pub place_cmp : Place → Place → Ordering
place_cmp p q = address_cmp (address_of p) (address_of q)

abbrev pub same_place : Place → Place → Bool
same_place p q = is_eq (place_cmp p q)

-- ---- as callers name it; none where the class has no such bucket

abbrev pub rates_slot : BucketId → Option Slot
rates_slot (id.Number n) = None
rates_slot id.Residual = None
rates_slot (id.Currency currency) = Some (slot.Rates currency)
rates_slot id.Single = None

abbrev pub credit_slot : CreditClass → BucketId → Option Slot
credit_slot class b = option_map (λ at. slot.Credit class at) (listed_id b)

abbrev pub priced_slot : PricedClass → BucketId → Option Slot
priced_slot class b = option_map (λ at. slot.Priced class at) (listed_id b)

abbrev pub exchange_slot : BucketId → Option Slot
exchange_slot (id.Number n) = None
exchange_slot id.Residual = None
exchange_slot (id.Currency currency) = None
exchange_slot id.Single = Some slot.Exchange

abbrev pub slot_named : RiskClass → BucketId → Option Slot
slot_named class.IR b = rates_slot b
slot_named class.CreditQ b = credit_slot credit.Qualifying b
slot_named class.CreditNonQ b = credit_slot credit.NonQualifying b
slot_named class.Equity b = priced_slot priced.Equities b
slot_named class.Commodity b = priced_slot priced.Commodities b
slot_named class.FX b = exchange_slot b

-- base correlation is named as the single bucket of credit that qualifies, whose own buckets are listed
abbrev pub base_stand : RiskClass → BucketId → Option Stand
base_stand class.CreditQ id.Single = Some stand.BaseCorrelation
base_stand _ _ = None

abbrev pub stand_named : RiskClass → Measure → BucketId → Option Stand
stand_named class measure.Delta b = option_map stand.Delta (slot_named class b)
stand_named class measure.Vega b = option_map stand.Volatility (slot_named class b)
stand_named class measure.Curvature b = option_map stand.Volatility (slot_named class b)
stand_named class measure.BaseCorr b = base_stand class b

abbrev pub place_named : ProductClass → RiskClass → Measure → BucketId → Option Place
place_named product class measure b = option_map (λ stand. record { product = product; stand = stand }) (stand_named class measure b)
