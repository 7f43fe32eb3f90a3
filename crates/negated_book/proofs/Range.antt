-- The range: counts of keys, and weighted sizes, neither of which reads a sign.
use Rattle.std.proofs.Common.{◌≡◌, ◌^◌, List, [], ◌∷◌, ◌++◌, map, length, Bool, ◌&&◌, Option, ℤ, pos, ◌+ℤ◌, ◌*ℤ◌, unsigned_abs, refl, ap, ◌∙◌}
use Rattle.std.specs.List.{filter, flat_map}
use Rattle.std.proofs.lemmas.List.{length-map}
use Rattle.std.proofs.lemmas.Simd.{map-map}
use Rattle.factor_book.specs.MhUnits.Rounding.{up}
use Rattle.factor_book.specs.SimmKinds.declared.kinds.RiskClass.{RiskClass}
use Rattle.factor_book.specs.SimmKinds.declared.kinds.RiskClass.TheVariants as class
use Rattle.factor_book.specs.SimmKinds.declared.row.CrifRow.{CrifRow}
use Rattle.factor_book.specs.SimmKinds.Factors.{class_of, side_of, bucket_of}
use Rattle.factor_book.specs.SimmKinds.Order.{same_class, bucket_id_cmp, same_bucket_id}
use Rattle.factor_book.specs.SimmRules.declared.values.RangeFault.{RangeFault}
use Rattle.factor_book.specs.SimmRules.declared.values.RangeKind.TheVariants as range_kind
use Rattle.factor_book.specs.SimmRules.Params.{Params, CreditBucket, PricedBucket}
use Rattle.factor_book.specs.SimmRules.Sums.{total_by, first_some, different}
use Rattle.factor_book.specs.SimmRules.Net.{Sensitivity, sensitivities, in_product}
use Rattle.factor_book.specs.SimmRules.Risks.{Risk, Amount, select}
use Rattle.factor_book.specs.SimmRules.declared.classes.CreditClass.{CreditClass}
use Rattle.factor_book.specs.SimmRules.declared.classes.CreditClass.TheVariants.{Qualifying, NonQualifying}
use Rattle.factor_book.specs.SimmRules.declared.classes.PricedClass.{PricedClass}
use Rattle.factor_book.specs.SimmRules.declared.classes.PricedClass.TheVariants.{Equities, Commodities}
use Rattle.factor_book.specs.SimmRules.Rates.{as_rate, as_rate_volatility, rate_weight}
use Rattle.factor_book.specs.SimmRules.Credit.{as_credit, as_credit_volatility, credit_params}
use Rattle.factor_book.specs.SimmRules.BaseCorrelation.{as_index}
use Rattle.factor_book.specs.SimmRules.Priced.{as_price, as_price_volatility, priced_params}
use Rattle.factor_book.specs.SimmRules.ForeignExchange.{as_currency, as_pair_volatility, fx_weight, fx_sigma}
use Rattle.factor_book.specs.SimmRules.Gross.{size_by, credit_size, credit_volatility_size, price_size, price_volatility_size, delta_size, vega_size, delta_gross, vega_gross}
use Rattle.factor_book.specs.SimmRules.Simm.{products, classes}
use Rattle.factor_book.specs.SimmRules.Range.{Sided, is_on, on_side, above, key_count, bucket_keys, sides, each_class, range}
use Rattle.factor_book.proofs.SimmKinds.MhUnits.Integers.{unsigned_abs-neg}
use Rattle.negated_book.specs.Negated.{negated_row, negated, negated_sensitivity, negated_nets, negated_amount, negated_amounts}
use Rattle.negated_book.specs.Turned.{IsEven}
use Rattle.negated_book.proofs.Lists.{filter-map, total_stays}
use Rattle.negated_book.proofs.Netting.{sensitivities-negated, in_product-negated, keys_of-negated, select-negated}

-- ---- weighted sizes

pub size_by-negated : {A : Type 0} (factor : A → ℤ) (amounts : List (Amount A)) → size_by factor (negated_amounts amounts) ≡ size_by factor amounts
size_by-negated {A} factor amounts =
    total_stays (λ (a : Amount A). pos (unsigned_abs a.amount) *ℤ factor a.of) negated_amount (λ a. ap (λ n. pos n *ℤ factor a.of) (unsigned_abs-neg a.amount)) amounts

size_of : {A : Type 0} (sort : Risk → Option A) (factor : A → ℤ) → IsEven (λ ss. size_by factor (select sort ss))
size_of sort factor ss = ap (size_by factor) (select-negated sort ss) ∙ size_by-negated factor (select sort ss)

-- of all buckets that are listed
sizes_of : {A B : Type 0} (sort : B → Risk → Option A) (factor : B → A → ℤ) (bs : List B) → IsEven (λ ss. total_by (λ b. size_by (factor b) (select (sort b) ss)) bs)
sizes_of sort factor bs ss = λ i. total_by (λ b. size_of (sort b) (factor b) ss i) bs

credit_size-even : (p : Params) (class : CreditClass) → IsEven (credit_size p class)
credit_size-even p class = sizes_of (λ (b : CreditBucket). as_credit class (b.terms).id) (λ b point. (b.terms).weight) (credit_params p class).buckets

credit_volatility_size-even : (p : Params) (class : CreditClass) → IsEven (credit_volatility_size p class)
credit_volatility_size-even p class = sizes_of (λ (b : CreditBucket). as_credit_volatility class (b.terms).id) (λ b point. pos 10000) (credit_params p class).buckets

price_size-even : (p : Params) (class : PricedClass) → IsEven (price_size p class)
price_size-even p class = sizes_of (λ (b : PricedBucket). as_price class (b.terms).id) (λ b name. (b.terms).weight) (priced_params p class).buckets

price_volatility_size-even : (p : Params) (class : PricedClass) → IsEven (price_volatility_size p class)
price_volatility_size-even p class = sizes_of (λ (b : PricedBucket). as_price_volatility class (b.terms).id) (λ b name. b.sigma) (priced_params p class).buckets

pub delta_size-even : (p : Params) (c : RiskClass) → IsEven (λ ss. delta_size p ss c)
delta_size-even p class.IR ss = size_of as_rate (rate_weight p) ss
delta_size-even p class.CreditQ ss = λ i. credit_size-even p Qualifying ss i +ℤ size_of as_index (λ index. p.base_weight) ss i
delta_size-even p class.CreditNonQ ss = credit_size-even p NonQualifying ss
delta_size-even p class.Equity ss = price_size-even p Equities ss
delta_size-even p class.Commodity ss = price_size-even p Commodities ss
delta_size-even p class.FX ss = size_of as_currency (fx_weight p) ss

pub vega_size-even : (p : Params) (c : RiskClass) → IsEven (λ ss. vega_size p ss c)
vega_size-even p class.IR ss = size_of as_rate_volatility (λ v. pos 10000) ss
vega_size-even p class.CreditQ ss = credit_volatility_size-even p Qualifying ss
vega_size-even p class.CreditNonQ ss = credit_volatility_size-even p NonQualifying ss
vega_size-even p class.Equity ss = price_volatility_size-even p Equities ss
vega_size-even p class.Commodity ss = price_volatility_size-even p Commodities ss
vega_size-even p class.FX ss = size_of as_pair_volatility (λ v. fx_sigma p v.pair) ss

-- ---- counts

key_count-even : IsEven key_count
key_count-even ss = ap (λ keys. pos (length keys)) (keys_of-negated ss)

kept_count : (test : Sensitivity → Bool) → ((s : Sensitivity) → test (negated_sensitivity s) ≡ test s) → IsEven (λ ss. key_count (filter test ss))
kept_count test blind ss =
    ap key_count (filter-map negated_sensitivity test ss) ∙ key_count-even (filter (λ s. test (negated_sensitivity s)) ss) ∙ ap (λ t. key_count (filter t ss)) (λ i s. blind s i)

bucket_keys-negated : (ss : List Sensitivity) → bucket_keys (negated_nets ss) ≡ bucket_keys ss
bucket_keys-negated ss = λ i.
    map (λ b. above range_kind.BucketKeys (kept_count (λ s. same_bucket_id (bucket_of s.key.factor) b) (λ s. refl) ss i) (pos 2000))
    (different bucket_id_cmp (map-map (λ (s : Sensitivity). bucket_of s.key.factor) negated_sensitivity ss i))

sided_keys : (ss : List Sensitivity) (c : RiskClass) (at : Sided) → bucket_keys (on_side c at (negated_nets ss)) ≡ bucket_keys (on_side c at ss)
sided_keys ss c at =
    ap bucket_keys (filter-map negated_sensitivity (λ s. same_class (class_of s.key.factor) c && is_on at (side_of s.key.factor)) ss) ∙ bucket_keys-negated (on_side c at ss)

-- ---- class by class

each_row : {A : Type 0} (f : List Sensitivity → RiskClass → List A) → ((ss : List Sensitivity) (c : RiskClass) → f (negated_nets ss) c ≡ f ss c) → (rows : List CrifRow) → each_class (sensitivities (negated rows)) f ≡ each_class (sensitivities rows) f
each_row f stay rows =
    let ss : List Sensitivity = sensitivities rows in
    ap (λ its. each_class its f) (sensitivities-negated rows)
    ∙ (λ i. flat_map (λ product. flat_map (f (in_product-negated product ss i)) classes) products)
    ∙ (λ i. flat_map (λ product. flat_map (λ c. stay (in_product product ss) c i) classes) products)

pub range-stays : (p : Params) (rows : List CrifRow) → range p (negated rows) ≡ range p rows
unfolding range
range-stays p rows = λ i.
    first_some (
    above range_kind.RowCount (pos (length-map rows negated_row i)) (pos 200000)
    ∷ above range_kind.KeyCount (keys i) (pos 20000)
    ∷ each_row bucket_faults (λ ss c i. flat_map (λ at. sided_keys ss c at i) sides) rows i
    ++ each_row delta_faults (λ ss c i. above range_kind.DeltaGross (up (delta_size-even p c ss i) (pos 10000)) (pos (10 ^ 13)) ∷ []) rows i
    ++ each_row vega_faults (λ ss c i. above range_kind.VegaGross (up (vega_size-even p c ss i) (pos 10000)) (pos (10 ^ 13)) ∷ []) rows i)
  where
    keys : key_count (sensitivities (negated rows)) ≡ key_count (sensitivities rows)
    keys = ap key_count (sensitivities-negated rows) ∙ key_count-even (sensitivities rows)

    bucket_faults : List Sensitivity → RiskClass → List (Option RangeFault)
    bucket_faults ss c = flat_map (λ at. bucket_keys (on_side c at ss)) sides

    delta_faults : List Sensitivity → RiskClass → List (Option RangeFault)
    delta_faults ss c = above range_kind.DeltaGross (delta_gross p ss c) (pos (10 ^ 13)) ∷ []

    vega_faults : List Sensitivity → RiskClass → List (Option RangeFault)
    vega_faults ss c = above range_kind.VegaGross (vega_gross p ss c) (pos (10 ^ 13)) ∷ []
