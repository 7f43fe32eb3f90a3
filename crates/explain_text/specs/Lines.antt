-- The lines of an explained margin, each with the figures of one thing. Fields are parted by one tab.
use Rattle.std.specs.Prelude.{ℕ, ◌^◌, List, [], ◌++◌, Option, Some, None, codes, decimal, ℤ, pos, ◌-ℤ◌, ◌*ℤ◌}
use Rattle.std.specs.Fmt.{signed_decimal}
use Rattle.measured_bucket.specs.MhUnits.Money.{money_text}
use Rattle.measured_bucket.specs.MhUnits.Rounding.{up}
use Rattle.measured_bucket.specs.SimmKinds.declared.kinds.BucketId.{BucketId}
use Rattle.measured_bucket.specs.SimmKinds.declared.kinds.BucketId.TheVariants as id
use Rattle.measured_bucket.specs.SimmKinds.declared.kinds.Measure.{Measure}
use Rattle.measured_bucket.specs.SimmKinds.declared.kinds.Measure.TheVariants as measure
use Rattle.measured_bucket.specs.SimmKinds.declared.kinds.ProductClass.{ProductClass}
use Rattle.measured_bucket.specs.SimmKinds.declared.kinds.RiskClass.{RiskClass}
use Rattle.measured_bucket.specs.SimmKinds.declared.key.FactorKey.{FactorKey}
use Rattle.measured_bucket.specs.SimmKinds.Factors.{kind_of}
use Rattle.measured_bucket.specs.SimmKinds.Kinds.{product_word, class_word, kind_word}
use Rattle.measured_bucket.specs.SimmRules.declared.values.BucketMargin.{BucketMargin}
use Rattle.measured_bucket.specs.SimmRules.Risks.{Amount}
use Rattle.bucket_cache.specs.FactorBook.declared.holding.Holding.{Holding}
use Rattle.bucket_cache.specs.FactorBook.declared.place.Place.{Place}
use Rattle.bucket_cache.specs.FactorBook.Place.{stand_bucket, stand_class}
use Rattle.measured_bucket.specs.declared.weighing.Group.{Group}
use Rattle.measured_bucket.specs.declared.weighing.Weighing.{Weighing}
use Rattle.breakdown_text.specs.FaultText.Fields.{field, last_field}
use Rattle.breakdown_text.specs.Factors.{factor_fields}

-- ---- nets

-- a key, what its rows net to, and how many they are
abbrev pub net_line : FactorKey × Holding → List ℕ
net_line f =
    field (codes "NET") ++ field (product_word (f.0).product) ++ field (kind_word (kind_of (f.0).factor)) ++ factor_fields (f.0).factor
    ++ field (money_text (f.1).net) ++ last_field (decimal (f.1).rows)

-- ---- measures

abbrev pub measure_word : Measure → List ℕ
measure_word measure.Delta = codes "Delta"
measure_word measure.Vega = codes "Vega"
measure_word measure.Curvature = codes "Curvature"
measure_word measure.BaseCorr = codes "BaseCorr"

-- what a line of a measure begins with: its word, the measure, the product class and the risk class
abbrev pub measure_fields : List ℕ → Measure → ProductClass → RiskClass → List ℕ
measure_fields word measure product class =
    field word ++ field (measure_word measure) ++ field (product_word product) ++ field (class_word class)

-- a bucket as a row has it: the single one of a class has no name
abbrev pub bucket_word : BucketId → List ℕ
bucket_word (id.Number n) = decimal n
bucket_word id.Residual = codes "Residual"
bucket_word (id.Currency currency) = currency
bucket_word id.Single = []

-- the concentration factor of the bucket in millionths, the sum of its weighted sensitivities and of their sizes, Q in cents
-- squared times 10^6, K and S
abbrev pub sum_fields : BucketMargin → List ℕ
sum_fields v = field (signed_decimal (v.cr).0) ++ field (money_text v.sum) ++ field (money_text v.gross)

abbrev pub root_fields : BucketMargin → List ℕ
root_fields v = field (signed_decimal v.q) ++ field (money_text v.k) ++ last_field (money_text v.s)

abbrev pub value_fields : BucketMargin → List ℕ
value_fields v = sum_fields v ++ root_fields v

-- the value of a bucket in a measure
abbrev pub bucket_line : Place → Measure → BucketMargin → List ℕ
bucket_line place measure v =
    measure_fields (codes "BUCKET") measure place.product (stand_class place.stand) ++ field (bucket_word (stand_bucket place.stand)) ++ value_fields v

-- the margin of a measure in a risk class
abbrev pub measure_line : ProductClass → RiskClass → Measure → ℤ → List ℕ
measure_line product class measure margin = measure_fields (codes "MEASURE") measure product class ++ last_field (money_text margin)

-- ---- factors

-- the amount that is weighed: in cents; in curvature a whole number of 21,900ths of a cent
abbrev pub amount_text : Measure → ℤ → List ℕ
amount_text measure.Delta amount = money_text amount
amount_text measure.Vega amount = money_text amount
amount_text measure.Curvature amount = signed_decimal amount
amount_text measure.BaseCorr amount = money_text amount

-- the net of the concentration group and its threshold; both are empty where no concentration scales the factor
abbrev pub group_fields : Option Group → List ℕ
group_fields None = field [] ++ field []
group_fields (Some group) = field (money_text group.net) ++ field (money_text group.threshold)

abbrev pub weighing_fields : Measure → Weighing → List ℕ
weighing_fields measure from = field (amount_text measure from.amount) ++ group_fields from.group

-- the concentration factor in millionths, the weight in ten-thousandths, and the weighted value that they make of the amount
abbrev pub weighted_fields : ℤ → ℤ → ℤ → List ℕ
weighted_fields cr weight w = field (signed_decimal cr) ++ field (signed_decimal weight) ++ last_field (money_text w)

-- a factor in a measure, by the fields of its name
abbrev pub factor_line : Measure → ProductClass → List ℕ → Weighing → ℤ → ℤ → List ℕ
factor_line measure product name from cr w =
    field (codes "FACTOR") ++ field (measure_word measure) ++ field (product_word product) ++ name
    ++ weighing_fields measure from ++ weighted_fields cr (from.weight).0 w

-- ---- additional margins

-- what a line of one begins with: its kind, what it is of, and the factor or the multiplier
abbrev pub add_on_fields : List ℕ → List ℕ → ℤ → List ℕ
add_on_fields kind of rate = field (codes "ADDON") ++ field kind ++ field of ++ field (signed_decimal rate)

-- and what it ends with: the amount that it is for, and what it adds
abbrev pub amount_fields : ℤ → ℤ → List ℕ
amount_fields for_amount adds = field (money_text for_amount) ++ last_field (money_text adds)

-- a factor of notionals, in percent, in ten-thousandths: the sum of the sizes of the notionals of its qualifier, and what it adds
abbrev pub notional_line : (List ℕ → ℤ) → Amount (List ℕ) → List ℕ
notional_line size f =
    add_on_fields (codes "NOTIONAL") f.of f.amount ++ amount_fields (size f.of) (up (f.amount *ℤ size f.of) (pos (10 ^ 6)))

-- a multiplier, in ten-thousandths: the margin of its product class, and what it adds
abbrev pub multiplier_line : (ProductClass → ℤ) → Amount ProductClass → List ℕ
multiplier_line margin m =
    add_on_fields (codes "MULTIPLIER") (product_word m.of) m.amount
    ++ amount_fields (margin m.of) (up ((m.amount -ℤ pos 10000) *ℤ margin m.of) (pos 10000))
