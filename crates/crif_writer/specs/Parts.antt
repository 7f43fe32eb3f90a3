-- What a risk factor has in the columns of the qualifier, the bucket and the two labels: as the grammar of CRIF reads them, and
-- nothing in a column that its risk type does not read.
use Rattle.std.specs.Prelude.{◌≡◌, ℕ, List, [], ◌∷◌, ◌++◌, true, decimal}
use Rattle.crif_reader.specs.SimmKinds.declared.bucket.Bucket.{Bucket}
use Rattle.crif_reader.specs.SimmKinds.declared.bucket.Bucket.TheVariants as bucket
use Rattle.crif_reader.specs.SimmKinds.declared.factor.Factor.{Factor}
use Rattle.crif_reader.specs.SimmKinds.declared.factor.Factor.TheVariants as factor
use Rattle.crif_reader.specs.SimmKinds.Bucket.{bucket_text}
use Rattle.crif_reader.specs.SimmKinds.BucketNumber.{is_bucket_number}
use Rattle.crif_reader.specs.SimmKinds.Kinds.{sub_word}
use Rattle.crif_reader.specs.SimmKinds.NameText.{is_currency, is_full_name, IsName}
use Rattle.crif_reader.specs.SimmKinds.Pair.{Pair, is_pair}
use Rattle.crif_reader.specs.SimmKinds.Tenors.{tenor_word, tenor_at}

-- six letters
abbrev pub pair_text : Pair → List ℕ
pair_text p = p.first ++ p.second

-- the currency, the pair, or the name of the issuer, the index or the commodity
abbrev pub qualifier_text : Factor → List ℕ
qualifier_text (factor.IrCurve c t s) = c
qualifier_text (factor.Inflation c) = c
qualifier_text (factor.XccyBasis c) = c
qualifier_text (factor.IrVol c t) = c
qualifier_text (factor.InflationVol c t) = c
qualifier_text (factor.CreditQ i b t l) = i
qualifier_text (factor.CreditVol i b t l) = i
qualifier_text (factor.CreditNonQ i b t l) = i
qualifier_text (factor.CreditVolNonQ i b t l) = i
qualifier_text (factor.BaseCorr i) = i
qualifier_text (factor.Equity i b) = i
qualifier_text (factor.EquityVol i b t) = i
qualifier_text (factor.Commodity n b) = n
qualifier_text (factor.CommodityVol n b t) = n
qualifier_text (factor.Fx c) = c
qualifier_text (factor.FxVol p t) = pair_text p

-- the number of the bucket, or its word
abbrev pub bucket_field : Factor → List ℕ
bucket_field (factor.IrCurve c t s) = []
bucket_field (factor.Inflation c) = []
bucket_field (factor.XccyBasis c) = []
bucket_field (factor.IrVol c t) = []
bucket_field (factor.InflationVol c t) = []
bucket_field (factor.CreditQ i b t l) = bucket_text b
bucket_field (factor.CreditVol i b t l) = bucket_text b
bucket_field (factor.CreditNonQ i b t l) = bucket_text b
bucket_field (factor.CreditVolNonQ i b t l) = bucket_text b
bucket_field (factor.BaseCorr i) = []
bucket_field (factor.Equity i b) = bucket_text b
bucket_field (factor.EquityVol i b t) = bucket_text b
bucket_field (factor.Commodity n b) = decimal b
bucket_field (factor.CommodityVol n b t) = decimal b
bucket_field (factor.Fx c) = []
bucket_field (factor.FxVol p t) = []

-- the tenor's word
abbrev pub label1_text : Factor → List ℕ
label1_text (factor.IrCurve c t s) = tenor_word t
label1_text (factor.Inflation c) = []
label1_text (factor.XccyBasis c) = []
label1_text (factor.IrVol c t) = tenor_word t
label1_text (factor.InflationVol c t) = tenor_word t
label1_text (factor.CreditQ i b t l) = tenor_word (tenor_at t)
label1_text (factor.CreditVol i b t l) = tenor_word (tenor_at t)
label1_text (factor.CreditNonQ i b t l) = tenor_word (tenor_at t)
label1_text (factor.CreditVolNonQ i b t l) = tenor_word (tenor_at t)
label1_text (factor.BaseCorr i) = []
label1_text (factor.Equity i b) = []
label1_text (factor.EquityVol i b t) = tenor_word t
label1_text (factor.Commodity n b) = []
label1_text (factor.CommodityVol n b t) = tenor_word t
label1_text (factor.Fx c) = []
label1_text (factor.FxVol p t) = tenor_word t

-- the sub-curve's word, or the second name of a credit spread
abbrev pub label2_text : Factor → List ℕ
label2_text (factor.IrCurve c t s) = sub_word s
label2_text (factor.Inflation c) = []
label2_text (factor.XccyBasis c) = []
label2_text (factor.IrVol c t) = []
label2_text (factor.InflationVol c t) = []
label2_text (factor.CreditQ i b t l) = l
label2_text (factor.CreditVol i b t l) = l
label2_text (factor.CreditNonQ i b t l) = l
label2_text (factor.CreditVolNonQ i b t l) = l
label2_text (factor.BaseCorr i) = []
label2_text (factor.Equity i b) = []
label2_text (factor.EquityVol i b t) = []
label2_text (factor.Commodity n b) = []
label2_text (factor.CommodityVol n b t) = []
label2_text (factor.Fx c) = []
label2_text (factor.FxVol p t) = []

-- in the order of the columns
abbrev pub factor_fields : Factor → List (List ℕ)
factor_fields f = qualifier_text f ∷ bucket_field f ∷ label1_text f ∷ label2_text f ∷ []

-- ---- what a factor's parts keep, by their types

abbrev pub IsQualified : Factor → Type 0
IsQualified (factor.IrCurve c t s) = is_currency c ≡ true
IsQualified (factor.Inflation c) = is_currency c ≡ true
IsQualified (factor.XccyBasis c) = is_currency c ≡ true
IsQualified (factor.IrVol c t) = is_currency c ≡ true
IsQualified (factor.InflationVol c t) = is_currency c ≡ true
IsQualified (factor.CreditQ i b t l) = is_full_name i ≡ true
IsQualified (factor.CreditVol i b t l) = is_full_name i ≡ true
IsQualified (factor.CreditNonQ i b t l) = is_full_name i ≡ true
IsQualified (factor.CreditVolNonQ i b t l) = is_full_name i ≡ true
IsQualified (factor.BaseCorr i) = is_full_name i ≡ true
IsQualified (factor.Equity i b) = is_full_name i ≡ true
IsQualified (factor.EquityVol i b t) = is_full_name i ≡ true
IsQualified (factor.Commodity n b) = is_full_name n ≡ true
IsQualified (factor.CommodityVol n b t) = is_full_name n ≡ true
IsQualified (factor.Fx c) = is_currency c ≡ true
IsQualified (factor.FxVol p t) = is_pair p ≡ true

abbrev pub IsBucket : Bucket → Type 0
IsBucket (bucket.Number n) = is_bucket_number n ≡ true
IsBucket bucket.Residual = Unit {0}

abbrev pub IsBucketed : Factor → Type 0
IsBucketed (factor.IrCurve c t s) = Unit {0}
IsBucketed (factor.Inflation c) = Unit {0}
IsBucketed (factor.XccyBasis c) = Unit {0}
IsBucketed (factor.IrVol c t) = Unit {0}
IsBucketed (factor.InflationVol c t) = Unit {0}
IsBucketed (factor.CreditQ i b t l) = IsBucket b
IsBucketed (factor.CreditVol i b t l) = IsBucket b
IsBucketed (factor.CreditNonQ i b t l) = IsBucket b
IsBucketed (factor.CreditVolNonQ i b t l) = IsBucket b
IsBucketed (factor.BaseCorr i) = Unit {0}
IsBucketed (factor.Equity i b) = IsBucket b
IsBucketed (factor.EquityVol i b t) = IsBucket b
IsBucketed (factor.Commodity n b) = is_bucket_number b ≡ true
IsBucketed (factor.CommodityVol n b t) = is_bucket_number b ≡ true
IsBucketed (factor.Fx c) = Unit {0}
IsBucketed (factor.FxVol p t) = Unit {0}

abbrev pub IsLabelled : Factor → Type 0
IsLabelled (factor.IrCurve c t s) = Unit {0}
IsLabelled (factor.Inflation c) = Unit {0}
IsLabelled (factor.XccyBasis c) = Unit {0}
IsLabelled (factor.IrVol c t) = Unit {0}
IsLabelled (factor.InflationVol c t) = Unit {0}
IsLabelled (factor.CreditQ i b t l) = IsName l
IsLabelled (factor.CreditVol i b t l) = IsName l
IsLabelled (factor.CreditNonQ i b t l) = IsName l
IsLabelled (factor.CreditVolNonQ i b t l) = IsName l
IsLabelled (factor.BaseCorr i) = Unit {0}
IsLabelled (factor.Equity i b) = Unit {0}
IsLabelled (factor.EquityVol i b t) = Unit {0}
IsLabelled (factor.Commodity n b) = Unit {0}
IsLabelled (factor.CommodityVol n b t) = Unit {0}
IsLabelled (factor.Fx c) = Unit {0}
IsLabelled (factor.FxVol p t) = Unit {0}

pub record HasParts (f : Factor) : Type 0 where
  pub qualifier : IsQualified f
  pub bucket : IsBucketed f
  pub label2 : IsLabelled f
