-- The order of kinds, buckets, factors and keys: each enum in the order of its variants, and then part by part.
use Rattle.std.specs.Prelude.{ℕ, List, [], ◌∷◌, Bool, ◌==◌}
use Rattle.std.specs.Ordering.{nat_cmp, ordering_then, is_eq}
use Rattle.std.specs.declared.cmp.Ordering.{Ordering}
use Rattle.std.specs.Cmp.Lexicographic.{slice_cmp}
use Rattle.simm_kinds.specs.declared.kinds.ProductClass.{ProductClass}
use Rattle.simm_kinds.specs.declared.kinds.ProductClass.TheVariants as product
use Rattle.simm_kinds.specs.declared.kinds.RiskClass.{RiskClass}
use Rattle.simm_kinds.specs.declared.kinds.RiskClass.TheVariants as class
use Rattle.simm_kinds.specs.declared.kinds.RiskType.{RiskType}
use Rattle.simm_kinds.specs.declared.kinds.RiskType.TheVariants as kind
use Rattle.simm_kinds.specs.declared.kinds.BucketId.{BucketId}
use Rattle.simm_kinds.specs.declared.kinds.BucketId.TheVariants as id
use Rattle.simm_kinds.specs.declared.kinds.Tenor.{Tenor}
use Rattle.simm_kinds.specs.declared.kinds.Tenor.TheVariants as tenor
use Rattle.simm_kinds.specs.declared.kinds.SubCurve.{SubCurve}
use Rattle.simm_kinds.specs.declared.kinds.SubCurve.TheVariants as sub
use Rattle.simm_kinds.specs.declared.credit_tenor.CreditTenor.{CreditTenor}
use Rattle.simm_kinds.specs.declared.credit_tenor.CreditTenor.TheVariants as credit
use Rattle.simm_kinds.specs.declared.bucket.Bucket.{Bucket}
use Rattle.simm_kinds.specs.declared.bucket.Bucket.TheVariants as bucket
use Rattle.simm_kinds.specs.declared.factor.Factor.{Factor}
use Rattle.simm_kinds.specs.declared.factor.Factor.TheVariants as factor
use Rattle.simm_kinds.specs.declared.key.FactorKey.{FactorKey}
use Rattle.simm_kinds.specs.Factors.{kind_of}
use Rattle.simm_kinds.specs.Pair.{Pair}
pub use Rattle.simm_kinds.specs.NameOrder.{name_cmp, same_name}

abbrev pub product_place : ProductClass → ℕ
product_place product.RatesFX = 0
product_place product.Credit = 1
product_place product.Equity = 2
product_place product.Commodity = 3

abbrev pub class_place : RiskClass → ℕ
class_place class.IR = 0
class_place class.CreditQ = 1
class_place class.CreditNonQ = 2
class_place class.Equity = 3
class_place class.Commodity = 4
class_place class.FX = 5

abbrev pub kind_place : RiskType → ℕ
kind_place kind.IrCurve = 0
kind_place kind.Inflation = 1
kind_place kind.XccyBasis = 2
kind_place kind.IrVol = 3
kind_place kind.InflationVol = 4
kind_place kind.CreditQ = 5
kind_place kind.CreditVol = 6
kind_place kind.CreditNonQ = 7
kind_place kind.CreditVolNonQ = 8
kind_place kind.BaseCorr = 9
kind_place kind.Equity = 10
kind_place kind.EquityVol = 11
kind_place kind.Commodity = 12
kind_place kind.CommodityVol = 13
kind_place kind.Fx = 14
kind_place kind.FxVol = 15
kind_place kind.Notional = 16
kind_place kind.AddOnNotionalFactor = 17
kind_place kind.AddOnFixedAmount = 18
kind_place kind.ProductClassMultiplier = 19
kind_place kind.Pv = 20

abbrev pub tenor_place : Tenor → ℕ
tenor_place tenor.W2 = 0
tenor_place tenor.M1 = 1
tenor_place tenor.M3 = 2
tenor_place tenor.M6 = 3
tenor_place tenor.Y1 = 4
tenor_place tenor.Y2 = 5
tenor_place tenor.Y3 = 6
tenor_place tenor.Y5 = 7
tenor_place tenor.Y10 = 8
tenor_place tenor.Y15 = 9
tenor_place tenor.Y20 = 10
tenor_place tenor.Y30 = 11

abbrev pub sub_place : SubCurve → ℕ
sub_place sub.Ois = 0
sub_place sub.Libor1m = 1
sub_place sub.Libor3m = 2
sub_place sub.Libor6m = 3
sub_place sub.Libor12m = 4
sub_place sub.Prime = 5
sub_place sub.Municipal = 6

abbrev pub credit_tenor_place : CreditTenor → ℕ
credit_tenor_place credit.Y1 = 0
credit_tenor_place credit.Y2 = 1
credit_tenor_place credit.Y3 = 2
credit_tenor_place credit.Y5 = 3
credit_tenor_place credit.Y10 = 4

-- numbers, then Residual
abbrev pub bucket_numbers : Bucket → List ℕ
bucket_numbers (bucket.Number n) = 0 ∷ n ∷ []
bucket_numbers bucket.Residual = 1 ∷ []

abbrev pub bucket_cmp : Bucket → Bucket → Ordering
bucket_cmp a b = name_cmp (bucket_numbers a) (bucket_numbers b)

-- numbers, then Residual, then currencies, then Single
abbrev pub bucket_id_numbers : BucketId → List ℕ
bucket_id_numbers (id.Number n) = 0 ∷ n ∷ []
bucket_id_numbers id.Residual = 1 ∷ []
bucket_id_numbers (id.Currency c) = 2 ∷ c
bucket_id_numbers id.Single = 3 ∷ []

abbrev pub bucket_id_cmp : BucketId → BucketId → Ordering
bucket_id_cmp a b = name_cmp (bucket_id_numbers a) (bucket_id_numbers b)

abbrev pub pair_cmp : Pair → Pair → Ordering
pair_cmp p q = ordering_then (name_cmp p.first q.first) (name_cmp p.second q.second)

-- where a factor's variant stands: where its risk type does
abbrev pub factor_place : Factor → ℕ
factor_place f = kind_place (kind_of f)

-- a factor's parts in their order, each by what it is compared by: a name or a currency by its bytes, all else by its place
abbrev pub parts_of : Factor → List (List ℕ)
parts_of (factor.IrCurve c t s) = c ∷ (tenor_place t ∷ []) ∷ (sub_place s ∷ []) ∷ []
parts_of (factor.Inflation c) = c ∷ []
parts_of (factor.XccyBasis c) = c ∷ []
parts_of (factor.IrVol c t) = c ∷ (tenor_place t ∷ []) ∷ []
parts_of (factor.InflationVol c t) = c ∷ (tenor_place t ∷ []) ∷ []
parts_of (factor.CreditQ i b t l) = i ∷ bucket_numbers b ∷ (credit_tenor_place t ∷ []) ∷ l ∷ []
parts_of (factor.CreditVol i b t l) = i ∷ bucket_numbers b ∷ (credit_tenor_place t ∷ []) ∷ l ∷ []
parts_of (factor.CreditNonQ i b t l) = i ∷ bucket_numbers b ∷ (credit_tenor_place t ∷ []) ∷ l ∷ []
parts_of (factor.CreditVolNonQ i b t l) = i ∷ bucket_numbers b ∷ (credit_tenor_place t ∷ []) ∷ l ∷ []
parts_of (factor.BaseCorr i) = i ∷ []
parts_of (factor.Equity i b) = i ∷ bucket_numbers b ∷ []
parts_of (factor.EquityVol i b t) = i ∷ bucket_numbers b ∷ (tenor_place t ∷ []) ∷ []
parts_of (factor.Commodity n b) = n ∷ (b ∷ []) ∷ []
parts_of (factor.CommodityVol n b t) = n ∷ (b ∷ []) ∷ (tenor_place t ∷ []) ∷ []
parts_of (factor.Fx c) = c ∷ []
parts_of (factor.FxVol p t) = p.first ∷ p.second ∷ (tenor_place t ∷ []) ∷ []

-- by variant, and then part by part
abbrev pub factor_cmp : Factor → Factor → Ordering
factor_cmp a b = ordering_then (nat_cmp (factor_place a) (factor_place b)) (slice_cmp name_cmp (parts_of a) (parts_of b))

abbrev pub key_cmp : FactorKey → FactorKey → Ordering
key_cmp a b = ordering_then (nat_cmp (product_place a.product) (product_place b.product)) (factor_cmp a.factor b.factor)

-- tests of equality, by place
abbrev pub same_product : ProductClass → ProductClass → Bool
same_product a b = product_place a == product_place b

abbrev pub same_class : RiskClass → RiskClass → Bool
same_class a b = class_place a == class_place b

abbrev pub same_kind : RiskType → RiskType → Bool
same_kind a b = kind_place a == kind_place b

abbrev pub same_bucket : Bucket → Bucket → Bool
same_bucket a b = is_eq (bucket_cmp a b)

abbrev pub same_bucket_id : BucketId → BucketId → Bool
same_bucket_id a b = is_eq (bucket_id_cmp a b)

abbrev pub same_pair : Pair → Pair → Bool
same_pair a b = is_eq (pair_cmp a b)

abbrev pub same_factor : Factor → Factor → Bool
same_factor a b = is_eq (factor_cmp a b)

abbrev pub same_key : FactorKey → FactorKey → Bool
same_key a b = is_eq (key_cmp a b)
