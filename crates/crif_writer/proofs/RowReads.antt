-- A written row reads back as that row, whatever its risk type.
use Rattle.std.proofs.Common.{◌≡◌, ◌==◌, ◌&&◌, nat_le, nat_lt, ℕ, suc, ◌+◌, ◌-◌, ◌*◌, ◌/◌, ◌%◌, ◌<◌, ◌≤◌, ◌^◌, Bool, true, false, cond, List, [], ◌∷◌, ◌++◌, length, length-append, inl, inr, ℤ, pos, negsuc, unsigned_abs, int_le, Some, None, ok_or, Ok, refl, sym, ap, ◌∙◌, arith, codes}
use Rattle.std.specs.List.{list_all}
use Rattle.std.specs.Char.{to_ascii_lowercase}
use Rattle.std.specs.Result.{result_map_both}
use Rattle.std.specs.Fmt.{decimal}
use Rattle.std.proofs.lemmas.Bool.{and_parts, cases_Bool, le-leb, leb-true, ltb-true, ltb-false}
use Rattle.std.proofs.lemmas.Fmt.{decimal_digit, decimal_step_wide}
use Rattle.std.proofs.lemmas.List.{take_at, drop_at}
use Rattle.crif_reader.specs.MhUnits.declared.quantities.Cents.{Cents}
use Rattle.crif_reader.specs.MhUnits.declared.quantities.Rate4.{Rate4}
use Rattle.crif_reader.specs.MhUnits.Money.{money_text}
use Rattle.crif_reader.specs.MhUnits.Numeral.{cents_of}
use Rattle.crif_reader.specs.SimmKinds.declared.bucket.Bucket.{Bucket}
use Rattle.crif_reader.specs.SimmKinds.declared.bucket.Bucket.TheVariants as bucket
use Rattle.crif_reader.specs.SimmKinds.declared.credit_tenor.CreditTenor.{CreditTenor}
use Rattle.crif_reader.specs.SimmKinds.declared.credit_tenor.CreditTenor.TheVariants as credit
use Rattle.crif_reader.specs.SimmKinds.declared.factor.Factor.{Factor}
use Rattle.crif_reader.specs.SimmKinds.declared.factor.Factor.TheVariants as factor
use Rattle.crif_reader.specs.SimmKinds.declared.kinds.ProductClass.{ProductClass}
use Rattle.crif_reader.specs.SimmKinds.declared.kinds.ProductClass.TheVariants as product
use Rattle.crif_reader.specs.SimmKinds.declared.kinds.RiskType.{RiskType}
use Rattle.crif_reader.specs.SimmKinds.declared.kinds.RiskType.TheVariants as kind
use Rattle.crif_reader.specs.SimmKinds.declared.kinds.SubCurve.{SubCurve}
use Rattle.crif_reader.specs.SimmKinds.declared.kinds.SubCurve.TheVariants as sub
use Rattle.crif_reader.specs.SimmKinds.declared.kinds.Tenor.{Tenor}
use Rattle.crif_reader.specs.SimmKinds.declared.kinds.Tenor.TheVariants as tenor
use Rattle.crif_reader.specs.SimmKinds.declared.row.CrifRow.{CrifRow}
use Rattle.crif_reader.specs.SimmKinds.declared.row.CrifRow.TheVariants as row
use Rattle.crif_reader.specs.SimmKinds.Batch.{is_in_range, is_amount}
use Rattle.crif_reader.specs.SimmKinds.Bucket.{bucket_named, bucket_text}
use Rattle.crif_reader.specs.SimmKinds.BucketNumber.{is_bucket_number, bucket_number_named}
use Rattle.crif_reader.specs.SimmKinds.Currency.{currency_text, upper}
use Rattle.crif_reader.specs.SimmKinds.Factors.{kind_of}
use Rattle.crif_reader.specs.SimmKinds.Kinds.{kind_named, kind_word, product_named, product_word, sub_named, sub_word}
use Rattle.crif_reader.specs.SimmKinds.NameText.{is_currency, is_full_name, is_upper, IsName}
use Rattle.crif_reader.specs.SimmKinds.Pair.{Pair, is_pair, pair_named}
use Rattle.crif_reader.specs.SimmKinds.Tenors.{tenor_named, tenor_word, tenor_at, credit_tenor_named}
use Rattle.crif_reader.specs.SimmKinds.Words.{is_word}
use Rattle.crif_reader.specs.declared.fault.RowFault.{RowFault}
use Rattle.crif_reader.specs.declared.fault.RowFault.TheVariants as fault
use Rattle.crif_reader.specs.Fields.{Texts}
use Rattle.crif_reader.specs.Factor.{factor_of, name_of, full_name_of, ir_curve_of, ir_vol_of, inflation_vol_of, credit_point_of, equity_of, equity_vol_of, commodity_of, commodity_vol_of, fx_vol_of}
use Rattle.crif_reader.specs.Row.{Entry, row_of, text_row_of, model_of, typed_of, entry_of, sensitivity_of, notional_of, fixed_amount_of, notional_factor_of, multiplier_of, is_present_value, amount_text, amount_of, rate_of, trade_of, product_of}
use Rattle.crif_writer.specs.Amounts.{rate_text}
use Rattle.crif_writer.specs.Parts.{qualifier_text, bucket_field, label1_text, label2_text, pair_text, IsBucket, IsQualified, IsBucketed, IsLabelled, HasParts}
use Rattle.crif_writer.specs.Rows.{row_fields, HasRowParts}
use Rattle.crif_writer.proofs.Numerals.{money_reads, rate_reads}
use Rattle.crif_writer.proofs.Plain.{IsPlain, plain_empty, plain_name, plain_full_name, plain_product, plain_kind, plain_tenor, plain_sub, plain_usd, plain_currency, plain_pair, plain_money, plain_rate, plain_number, plain_bucket, pair_parts, currency_length}
use Rattle.crif_writer.proofs.Texts.{places, fields_in, texts_read, text_read, ArePlain}

-- ---- words

pub kind_reads : (k : RiskType) → kind_named (kind_word k) ≡ Some k
kind_reads kind.IrCurve = refl
kind_reads kind.Inflation = refl
kind_reads kind.XccyBasis = refl
kind_reads kind.IrVol = refl
kind_reads kind.InflationVol = refl
kind_reads kind.CreditQ = refl
kind_reads kind.CreditVol = refl
kind_reads kind.CreditNonQ = refl
kind_reads kind.CreditVolNonQ = refl
kind_reads kind.BaseCorr = refl
kind_reads kind.Equity = refl
kind_reads kind.EquityVol = refl
kind_reads kind.Commodity = refl
kind_reads kind.CommodityVol = refl
kind_reads kind.Fx = refl
kind_reads kind.FxVol = refl
kind_reads kind.Notional = refl
kind_reads kind.AddOnNotionalFactor = refl
kind_reads kind.AddOnFixedAmount = refl
kind_reads kind.ProductClassMultiplier = refl
kind_reads kind.Pv = refl

product_reads : (p : ProductClass) → product_named (product_word p) ≡ Some p
product_reads product.RatesFX = refl
product_reads product.Credit = refl
product_reads product.Equity = refl
product_reads product.Commodity = refl

tenor_reads : (t : Tenor) → tenor_named (tenor_word t) ≡ Some t
tenor_reads tenor.W2 = refl
tenor_reads tenor.M1 = refl
tenor_reads tenor.M3 = refl
tenor_reads tenor.M6 = refl
tenor_reads tenor.Y1 = refl
tenor_reads tenor.Y2 = refl
tenor_reads tenor.Y3 = refl
tenor_reads tenor.Y5 = refl
tenor_reads tenor.Y10 = refl
tenor_reads tenor.Y15 = refl
tenor_reads tenor.Y20 = refl
tenor_reads tenor.Y30 = refl

credit_tenor_reads : (t : CreditTenor) → credit_tenor_named (tenor_word (tenor_at t)) ≡ Some t
credit_tenor_reads credit.Y1 = refl
credit_tenor_reads credit.Y2 = refl
credit_tenor_reads credit.Y3 = refl
credit_tenor_reads credit.Y5 = refl
credit_tenor_reads credit.Y10 = refl

sub_reads : (s : SubCurve) → sub_named (sub_word s) ≡ Some s
sub_reads sub.Ois = refl
sub_reads sub.Libor1m = refl
sub_reads sub.Libor3m = refl
sub_reads sub.Libor6m = refl
sub_reads sub.Libor12m = refl
sub_reads sub.Prime = refl
sub_reads sub.Municipal = refl

-- ---- currencies, pairs and buckets

upper_stays : (c : List ℕ) → list_all is_upper c ≡ true → upper c ≡ c
upper_stays [] h = refl
upper_stays (b ∷ bs) h =
    let both = and_parts (is_upper b) (list_all is_upper bs) h in
    let most = leb-true b 90 (and_parts (nat_le 65 b) (nat_le b 90) both.0).1 in
    let small : nat_lt b 97 ≡ true = le-leb (suc b) 97 (omega arith) in
    rw (small, upper_stays bs both.1) refl

currency_reads : (c : List ℕ) → is_currency c ≡ true → currency_text c ≡ Some c
currency_reads c h =
    let same = upper_stays c (and_parts (length c == 3) (list_all is_upper c) h).1 in
    ap (λ x. cond (is_currency x) (Some x) None) same ∙ rw h refl

pair_reads : (p : Pair) → is_pair p ≡ true → pair_named (pair_text p) ≡ Some p
pair_reads p h =
    let parts = pair_parts p h in
    let one = currency_length p.first parts.first in
    let two = currency_length p.second parts.second in
    let six : length (p.first ++ p.second) ≡ 6 = omega (arith, length-append p.first p.second) in
    rw (six, take_at p.first p.second 3 one, drop_at p.first p.second 3 one, currency_reads p.first parts.first, currency_reads p.second parts.second, parts.order) refl

one_digit_reads : (n : ℕ) → 1 ≤ n → n < 10 → bucket_number_named ((48 + n) ∷ []) ≡ cond (is_bucket_number n) (Some n) None
one_digit_reads n some small =
    let value : 48 + n - 48 ≡ n = omega arith in
    rw (le-leb 49 (48 + n) (omega arith), le-leb (48 + n) 57 (omega arith), value) refl

two_digits_read : (n : ℕ) → 10 ≤ n → n < 100 → bucket_number_named ((48 + n / 10) ∷ (48 + n % 10) ∷ []) ≡ cond (is_bucket_number n) (Some n) None
two_digits_read n some small =
    let value : (48 + n / 10 - 48) * 10 + (48 + n % 10 - 48) ≡ n = omega arith in
    rw (le-leb 49 (48 + n / 10) (omega arith), le-leb (48 + n / 10) 57 (omega arith), le-leb 48 (48 + n % 10) (omega arith), le-leb (48 + n % 10) 57 (omega arith), value) refl

and_none : (b : Bool) → (b && false) ≡ false
and_none true = refl
and_none false = refl

no_word_one : (a : ℕ) → is_word (codes "Residual") (a ∷ []) ≡ false
no_word_one a = and_none _

no_word_two : (a b : ℕ) → is_word (codes "Residual") (a ∷ b ∷ []) ≡ false
no_word_two a b = rw (and_none (to_ascii_lowercase b == 101)) (and_none _)

record IsNumberText (n : ℕ) (text : List ℕ) : Type 0 where
  reads : bucket_number_named text ≡ Some n
  no_word : is_word (codes "Residual") text ≡ false

number_text : (n : ℕ) → is_bucket_number n ≡ true → IsNumberText n (decimal n)
number_text n h =
    let both = and_parts (nat_le 1 n) (nat_le n 64) h in
    let least = leb-true 1 n both.0 in
    let most = leb-true n 64 both.1 in
    elim (cases_Bool (nat_lt n 10)) [
      | inl small ↦
          let few : n < 10 = ltb-true n 10 small in
          rw (decimal_digit n few) (record {
            reads = one_digit_reads n least few ∙ rw h refl;
            no_word = no_word_one (48 + n);
          })
      | inr large ↦
          let many : 10 ≤ n = ltb-false n 10 large in
          let tens : n / 10 < 10 = omega arith in
          rw (decimal_step_wide n many (omega arith), decimal_digit (n / 10) tens) (record {
            reads = two_digits_read n many (omega arith) ∙ rw h refl;
            no_word = no_word_two (48 + n / 10) (48 + n % 10);
          })
    ]

number_reads : (n : ℕ) → is_bucket_number n ≡ true → bucket_number_named (decimal n) ≡ Some n
number_reads n h = (number_text n h).reads

bucket_reads : (b : Bucket) → IsBucket b → bucket_named (bucket_text b) ≡ Some b
bucket_reads (bucket.Number n) h = let text = number_text n h in rw (text.no_word, text.reads) refl
bucket_reads bucket.Residual h = refl

name_reads : (f : RowFault) (name : List ℕ) → IsName name → name_of f name ≡ Ok name
name_reads f name h = rw h refl

full_name_reads : (f : RowFault) (name : List ℕ) → is_full_name name ≡ true → full_name_of f name ≡ Ok name
full_name_reads f name h = rw h refl

-- ---- factors

-- the texts have the factor's fields
record HasFields (t : Texts) (f : Factor) : Type 0 where
  qualifier : t.qualifier ≡ qualifier_text f
  bucket : t.bucket ≡ bucket_field f
  label1 : t.label1 ≡ label1_text f
  label2 : t.label2 ≡ label2_text f

credit_reads : (t : Texts) (i : List ℕ) (b : Bucket) (n : CreditTenor) (l : List ℕ) → t.qualifier ≡ i → t.bucket ≡ bucket_text b → t.label1 ≡ tenor_word (tenor_at n) → t.label2 ≡ l
    → is_full_name i ≡ true → IsBucket b → IsName l → credit_point_of t ≡ Ok (record { issuer = i; bucket = b; tenor = n; label2 = l })
unfolding credit_point_of
credit_reads t i b n l q k m o issuer isbucket label =
    rw (q, k, m, o, full_name_reads fault.Qualifier i issuer, bucket_reads b isbucket, credit_tenor_reads n, name_reads fault.Label2 l label) refl

factor_reads : (t : Texts) (f : Factor) → HasFields t f → HasParts f → factor_of (kind_of f) t ≡ Ok f
unfolding ir_curve_of ir_vol_of inflation_vol_of equity_of equity_vol_of commodity_of commodity_vol_of fx_vol_of
factor_reads t (factor.IrCurve c n s) h p = rw (h.qualifier, h.label1, h.label2, currency_reads c p.qualifier, tenor_reads n, sub_reads s) refl
factor_reads t (factor.Inflation c) h p = rw (h.qualifier, currency_reads c p.qualifier) refl
factor_reads t (factor.XccyBasis c) h p = rw (h.qualifier, currency_reads c p.qualifier) refl
factor_reads t (factor.IrVol c n) h p = rw (h.qualifier, h.label1, currency_reads c p.qualifier, tenor_reads n) refl
factor_reads t (factor.InflationVol c n) h p = rw (h.qualifier, h.label1, currency_reads c p.qualifier, tenor_reads n) refl
factor_reads t (factor.CreditQ i b n l) h p = rw (credit_reads t i b n l h.qualifier h.bucket h.label1 h.label2 p.qualifier p.bucket p.label2) refl
factor_reads t (factor.CreditVol i b n l) h p = rw (credit_reads t i b n l h.qualifier h.bucket h.label1 h.label2 p.qualifier p.bucket p.label2) refl
factor_reads t (factor.CreditNonQ i b n l) h p = rw (credit_reads t i b n l h.qualifier h.bucket h.label1 h.label2 p.qualifier p.bucket p.label2) refl
factor_reads t (factor.CreditVolNonQ i b n l) h p = rw (credit_reads t i b n l h.qualifier h.bucket h.label1 h.label2 p.qualifier p.bucket p.label2) refl
factor_reads t (factor.BaseCorr i) h p = rw (h.qualifier, full_name_reads fault.Qualifier i p.qualifier) refl
factor_reads t (factor.Equity i b) h p = rw (h.qualifier, h.bucket, full_name_reads fault.Qualifier i p.qualifier, bucket_reads b p.bucket) refl
factor_reads t (factor.EquityVol i b n) h p = rw (h.qualifier, h.bucket, h.label1, full_name_reads fault.Qualifier i p.qualifier, bucket_reads b p.bucket, tenor_reads n) refl
factor_reads t (factor.Commodity c b) h p = rw (h.qualifier, h.bucket, full_name_reads fault.Qualifier c p.qualifier, number_reads b p.bucket) refl
factor_reads t (factor.CommodityVol c b n) h p = rw (h.qualifier, h.bucket, h.label1, full_name_reads fault.Qualifier c p.qualifier, number_reads b p.bucket, tenor_reads n) refl
factor_reads t (factor.Fx c) h p = rw (h.qualifier, currency_reads c p.qualifier) refl
factor_reads t (factor.FxVol c n) h p = rw (h.qualifier, h.label1, pair_reads c p.qualifier, tenor_reads n) refl

-- ---- amounts

same_either : {A : Type 0} (b : Bool) (x : A) → cond b x x ≡ x
same_either true x = refl
same_either false x = refl

amount_reads : (t : Texts) (c : Cents) → t.amount ≡ money_text c.0 → t.amount_usd ≡ money_text c.0 → is_amount c.0 ≡ true → amount_of t ≡ Ok c
amount_reads t c a u fits =
    let text : amount_text t ≡ money_text c.0 = rw (a, u) (same_either _ (money_text c.0)) in
    ap (λ x. result_map_both (λ v. v) (λ e. fault.Amount e) (cents_of x)) text ∙ rw (money_reads c (leb-true (unsigned_abs c.0) (10 ^ 15) fits)) refl

within_size : (least most : ℕ) (r : ℤ) → int_le (pos least) r ≡ true → int_le r (pos most) ≡ true → most ≤ 10 ^ 12 → unsigned_abs r ≤ 10 ^ 12
within_size least most (pos n) low high few = let fits = leb-true n most high in omega arith
within_size least most (negsuc n) low high few = cc

rate_text_reads : (t : Texts) (r : Rate4) → t.amount ≡ rate_text r.0 → unsigned_abs r.0 ≤ 10 ^ 12 → rate_of t ≡ Ok r
rate_text_reads t r a fits = rw (a, rate_reads r fits) refl

-- ---- rows

abbrev pub kind_in : CrifRow → RiskType
kind_in (row.Sensitivity key amount) = kind_of key.factor
kind_in (row.Notional qualifier amount) = kind.Notional
kind_in (row.FixedAmount amount) = kind.AddOnFixedAmount
kind_in (row.NotionalFactor qualifier factor) = kind.AddOnNotionalFactor
kind_in (row.Multiplier product factor) = kind.ProductClassMultiplier

-- the texts of a written add-on
abbrev pub add_on_texts : List ℕ → RiskType → List ℕ → List ℕ → List ℕ → Texts
add_on_texts trade kind qualifier amount usd = record {
  trade_id = trade;
  product_class = [];
  risk_type = kind_word kind;
  qualifier = qualifier;
  bucket = [];
  label1 = [];
  label2 = [];
  amount = amount;
  amount_currency = codes "USD";
  amount_usd = usd;
  im_model = [];
}

-- the texts of a written row
abbrev pub row_texts : List ℕ → CrifRow → Texts
row_texts trade (row.Sensitivity key amount) = record {
  trade_id = trade;
  product_class = product_word key.product;
  risk_type = kind_word (kind_of key.factor);
  qualifier = qualifier_text key.factor;
  bucket = bucket_field key.factor;
  label1 = label1_text key.factor;
  label2 = label2_text key.factor;
  amount = money_text amount.0;
  amount_currency = codes "USD";
  amount_usd = money_text amount.0;
  im_model = [];
}
row_texts trade (row.Notional qualifier amount) = add_on_texts trade kind.Notional qualifier (money_text amount.0) (money_text amount.0)
row_texts trade (row.FixedAmount amount) = add_on_texts trade kind.AddOnFixedAmount [] (money_text amount.0) (money_text amount.0)
row_texts trade (row.NotionalFactor qualifier factor) = add_on_texts trade kind.AddOnNotionalFactor qualifier (rate_text factor.0) []
row_texts trade (row.Multiplier product factor) = add_on_texts trade kind.ProductClassMultiplier (product_word product) (rate_text factor.0) []

pub row_texts_are : (trade : List ℕ) (r : CrifRow) → fields_in (row_texts trade r) ≡ row_fields trade r
row_texts_are trade (row.Sensitivity key amount) = refl
row_texts_are trade (row.Notional qualifier amount) = refl
row_texts_are trade (row.FixedAmount amount) = refl
row_texts_are trade (row.NotionalFactor qualifier factor) = refl
row_texts_are trade (row.Multiplier product factor) = refl

-- a row stands in a trade with a name, and a parameter in that without one
abbrev pub IsPlaced : List ℕ → CrifRow → Type 0
IsPlaced trade (row.Sensitivity key amount) = is_full_name trade ≡ true
IsPlaced trade (row.Notional qualifier amount) = is_full_name trade ≡ true
IsPlaced trade (row.FixedAmount amount) = trade ≡ []
IsPlaced trade (row.NotionalFactor qualifier factor) = trade ≡ []
IsPlaced trade (row.Multiplier product factor) = trade ≡ []

pub record IsSound (trade : List ℕ) (r : CrifRow) : Type 0 where
  pub parts : HasRowParts r
  pub range : is_in_range r ≡ true
  pub place : IsPlaced trade r

entry_in : (f : Factor) (t : Texts) → entry_of (kind_of f) t ≡ sensitivity_of (kind_of f) t
entry_in (factor.IrCurve c n s) t = refl
entry_in (factor.Inflation c) t = refl
entry_in (factor.XccyBasis c) t = refl
entry_in (factor.IrVol c n) t = refl
entry_in (factor.InflationVol c n) t = refl
entry_in (factor.CreditQ i b n l) t = refl
entry_in (factor.CreditVol i b n l) t = refl
entry_in (factor.CreditNonQ i b n l) t = refl
entry_in (factor.CreditVolNonQ i b n l) t = refl
entry_in (factor.BaseCorr i) t = refl
entry_in (factor.Equity i b) t = refl
entry_in (factor.EquityVol i b n) t = refl
entry_in (factor.Commodity c b) t = refl
entry_in (factor.CommodityVol c b n) t = refl
entry_in (factor.Fx c) t = refl
entry_in (factor.FxVol p n) t = refl

sensitivity_reads : (k : RiskType) (t : Texts) (trade : List ℕ) (product : ProductClass) (factor : Factor) (amount : Cents) → trade_of t ≡ Ok trade → product_of t ≡ Ok product → factor_of k t ≡ Ok factor → amount_of t ≡ Ok amount
    → sensitivity_of k t ≡ Ok (record { trade = trade; row = row.Sensitivity (record { product = product; factor = factor }) amount })
unfolding sensitivity_of
sensitivity_reads k t trade product factor amount e1 e2 e3 e4 = rw (e1, e2, e3, e4) refl

product_text_reads : (p : ProductClass) (f : RowFault) → ok_or (product_named (product_word p)) f ≡ Ok p
product_text_reads p f = rw (product_reads p) refl

-- its texts give just that row, in its trade
pub entry_reads : (trade : List ℕ) (r : CrifRow) → IsSound trade r → entry_of (kind_in r) (row_texts trade r) ≡ Ok (record { trade = trade; row = r })
unfolding notional_of fixed_amount_of notional_factor_of multiplier_of
entry_reads trade (row.Sensitivity key amount) s =
    let t = row_texts trade (row.Sensitivity key amount) in
    let fields : HasFields t key.factor = record { qualifier = refl; bucket = refl; label1 = refl; label2 = refl } in
    entry_in key.factor t
    ∙ sensitivity_reads (kind_of key.factor) t trade key.product key.factor amount (full_name_reads fault.Trade trade s.place) (product_text_reads key.product fault.ProductClass) (factor_reads t key.factor fields s.parts) (amount_reads t amount refl refl s.range)
entry_reads trade (row.Notional qualifier amount) s =
    let t = row_texts trade (row.Notional qualifier amount) in
    rw (full_name_reads fault.Trade trade s.place, name_reads fault.Qualifier qualifier s.parts, amount_reads t amount refl refl s.range) refl
entry_reads trade (row.FixedAmount amount) s =
    let t = row_texts trade (row.FixedAmount amount) in
    let range = and_parts (int_le (pos 0) amount.0) (is_amount amount.0) s.range in
    rw (amount_reads t amount refl refl range.1, range.0, s.place) refl
entry_reads trade (row.NotionalFactor qualifier factor) s =
    let t = row_texts trade (row.NotionalFactor qualifier factor) in
    let range = and_parts (int_le (pos 0) factor.0) (int_le factor.0 (pos 1000000)) s.range in
    rw (full_name_reads fault.Qualifier qualifier s.parts, rate_text_reads t factor refl (within_size 0 1000000 factor.0 range.0 range.1 (omega arith)), s.range, s.place) refl
entry_reads trade (row.Multiplier product factor) s =
    let t = row_texts trade (row.Multiplier product factor) in
    let range = and_parts (int_le (pos 10000) factor.0) (int_le factor.0 (pos 100000)) s.range in
    rw (product_text_reads product fault.Qualifier, rate_text_reads t factor refl (within_size 10000 100000 factor.0 range.0 range.1 (omega arith)), s.range, s.place) refl

-- ---- the way of its record

plain_qualifier : (f : Factor) → IsQualified f → IsPlain (qualifier_text f)
plain_qualifier (factor.IrCurve c n s) h = plain_currency c h
plain_qualifier (factor.Inflation c) h = plain_currency c h
plain_qualifier (factor.XccyBasis c) h = plain_currency c h
plain_qualifier (factor.IrVol c n) h = plain_currency c h
plain_qualifier (factor.InflationVol c n) h = plain_currency c h
plain_qualifier (factor.CreditQ i b n l) h = plain_full_name i h
plain_qualifier (factor.CreditVol i b n l) h = plain_full_name i h
plain_qualifier (factor.CreditNonQ i b n l) h = plain_full_name i h
plain_qualifier (factor.CreditVolNonQ i b n l) h = plain_full_name i h
plain_qualifier (factor.BaseCorr i) h = plain_full_name i h
plain_qualifier (factor.Equity i b) h = plain_full_name i h
plain_qualifier (factor.EquityVol i b n) h = plain_full_name i h
plain_qualifier (factor.Commodity c b) h = plain_full_name c h
plain_qualifier (factor.CommodityVol c b n) h = plain_full_name c h
plain_qualifier (factor.Fx c) h = plain_currency c h
plain_qualifier (factor.FxVol p n) h = plain_pair p h

plain_bucket_field : (f : Factor) → IsBucketed f → IsPlain (bucket_field f)
plain_bucket_field (factor.IrCurve c n s) h = plain_empty
plain_bucket_field (factor.Inflation c) h = plain_empty
plain_bucket_field (factor.XccyBasis c) h = plain_empty
plain_bucket_field (factor.IrVol c n) h = plain_empty
plain_bucket_field (factor.InflationVol c n) h = plain_empty
plain_bucket_field (factor.CreditQ i b n l) h = plain_bucket b h
plain_bucket_field (factor.CreditVol i b n l) h = plain_bucket b h
plain_bucket_field (factor.CreditNonQ i b n l) h = plain_bucket b h
plain_bucket_field (factor.CreditVolNonQ i b n l) h = plain_bucket b h
plain_bucket_field (factor.BaseCorr i) h = plain_empty
plain_bucket_field (factor.Equity i b) h = plain_bucket b h
plain_bucket_field (factor.EquityVol i b n) h = plain_bucket b h
plain_bucket_field (factor.Commodity c b) h = plain_number b h
plain_bucket_field (factor.CommodityVol c b n) h = plain_number b h
plain_bucket_field (factor.Fx c) h = plain_empty
plain_bucket_field (factor.FxVol p n) h = plain_empty

plain_label1 : (f : Factor) → IsPlain (label1_text f)
plain_label1 (factor.IrCurve c n s) = plain_tenor n
plain_label1 (factor.Inflation c) = plain_empty
plain_label1 (factor.XccyBasis c) = plain_empty
plain_label1 (factor.IrVol c n) = plain_tenor n
plain_label1 (factor.InflationVol c n) = plain_tenor n
plain_label1 (factor.CreditQ i b n l) = plain_tenor (tenor_at n)
plain_label1 (factor.CreditVol i b n l) = plain_tenor (tenor_at n)
plain_label1 (factor.CreditNonQ i b n l) = plain_tenor (tenor_at n)
plain_label1 (factor.CreditVolNonQ i b n l) = plain_tenor (tenor_at n)
plain_label1 (factor.BaseCorr i) = plain_empty
plain_label1 (factor.Equity i b) = plain_empty
plain_label1 (factor.EquityVol i b n) = plain_tenor n
plain_label1 (factor.Commodity c b) = plain_empty
plain_label1 (factor.CommodityVol c b n) = plain_tenor n
plain_label1 (factor.Fx c) = plain_empty
plain_label1 (factor.FxVol p n) = plain_tenor n

plain_label2 : (f : Factor) → IsLabelled f → IsPlain (label2_text f)
plain_label2 (factor.IrCurve c n s) h = plain_sub s
plain_label2 (factor.Inflation c) h = plain_empty
plain_label2 (factor.XccyBasis c) h = plain_empty
plain_label2 (factor.IrVol c n) h = plain_empty
plain_label2 (factor.InflationVol c n) h = plain_empty
plain_label2 (factor.CreditQ i b n l) h = plain_name l h
plain_label2 (factor.CreditVol i b n l) h = plain_name l h
plain_label2 (factor.CreditNonQ i b n l) h = plain_name l h
plain_label2 (factor.CreditVolNonQ i b n l) h = plain_name l h
plain_label2 (factor.BaseCorr i) h = plain_empty
plain_label2 (factor.Equity i b) h = plain_empty
plain_label2 (factor.EquityVol i b n) h = plain_empty
plain_label2 (factor.Commodity c b) h = plain_empty
plain_label2 (factor.CommodityVol c b n) h = plain_empty
plain_label2 (factor.Fx c) h = plain_empty
plain_label2 (factor.FxVol p n) h = plain_empty

plain_cents : (c : Cents) → is_amount c.0 ≡ true → IsPlain (money_text c.0)
plain_cents c fits = plain_money c.0 (leb-true (unsigned_abs c.0) (10 ^ 15) fits)

plain_factor_rate : (r : Rate4) (least most : ℕ) → (int_le (pos least) r.0 && int_le r.0 (pos most)) ≡ true → most ≤ 10 ^ 12 → IsPlain (rate_text r.0)
plain_factor_rate r least most h few =
    let range = and_parts (int_le (pos least) r.0) (int_le r.0 (pos most)) h in
    plain_rate r.0 (within_size least most r.0 range.0 range.1 few)

plain_add_on : (trade : List ℕ) (k : RiskType) (qualifier amount usd : List ℕ) → IsName trade → IsPlain qualifier → IsPlain amount → IsPlain usd → ArePlain (add_on_texts trade k qualifier amount usd)
plain_add_on trade k qualifier amount usd name q a u =
    record {
      fields = (plain_name trade name, (plain_empty, (plain_kind k, (q, (plain_empty, (plain_empty, (plain_empty, (a, (plain_usd, (u, tt))))))))));
      no_model = refl;
    }

pub plain_row : (trade : List ℕ) (r : CrifRow) → IsName trade → IsSound trade r → ArePlain (row_texts trade r)
plain_row trade (row.Sensitivity key amount) name s =
    let money = plain_cents amount s.range in
    record {
      fields = (plain_name trade name, (plain_product key.product, (plain_kind (kind_of key.factor), (plain_qualifier key.factor s.parts.qualifier, (plain_bucket_field key.factor s.parts.bucket, (plain_label1 key.factor, (plain_label2 key.factor s.parts.label2, (money, (plain_usd, (money, tt))))))))));
      no_model = refl;
    }
plain_row trade (row.Notional qualifier amount) name s =
    let money = plain_cents amount s.range in
    plain_add_on trade kind.Notional qualifier _ _ name (plain_name qualifier s.parts) money money
plain_row trade (row.FixedAmount amount) name s =
    let money = plain_cents amount (and_parts (int_le (pos 0) amount.0) (is_amount amount.0) s.range).1 in
    plain_add_on trade kind.AddOnFixedAmount [] _ _ name plain_empty money money
plain_row trade (row.NotionalFactor qualifier factor) name s =
    plain_add_on trade kind.AddOnNotionalFactor qualifier _ [] name (plain_full_name qualifier s.parts) (plain_factor_rate factor 0 1000000 s.range (omega arith)) plain_empty
plain_row trade (row.Multiplier product factor) name s =
    plain_add_on trade kind.ProductClassMultiplier (product_word product) _ [] name (plain_product product) (plain_factor_rate factor 10000 100000 s.range (omega arith)) plain_empty

no_present_value : (f : Factor) → is_present_value (kind_of f) ≡ false
no_present_value (factor.IrCurve c n s) = refl
no_present_value (factor.Inflation c) = refl
no_present_value (factor.XccyBasis c) = refl
no_present_value (factor.IrVol c n) = refl
no_present_value (factor.InflationVol c n) = refl
no_present_value (factor.CreditQ i b n l) = refl
no_present_value (factor.CreditVol i b n l) = refl
no_present_value (factor.CreditNonQ i b n l) = refl
no_present_value (factor.CreditVolNonQ i b n l) = refl
no_present_value (factor.BaseCorr i) = refl
no_present_value (factor.Equity i b) = refl
no_present_value (factor.EquityVol i b n) = refl
no_present_value (factor.Commodity c b) = refl
no_present_value (factor.CommodityVol c b n) = refl
no_present_value (factor.Fx c) = refl
no_present_value (factor.FxVol p n) = refl

kept_in : (r : CrifRow) → is_present_value (kind_in r) ≡ false
kept_in (row.Sensitivity key amount) = no_present_value key.factor
kept_in (row.Notional qualifier amount) = refl
kept_in (row.FixedAmount amount) = refl
kept_in (row.NotionalFactor qualifier factor) = refl
kept_in (row.Multiplier product factor) = refl

kind_in_reads : (trade : List ℕ) (r : CrifRow) → kind_named (row_texts trade r).risk_type ≡ Some (kind_in r)
kind_in_reads trade (row.Sensitivity key amount) = kind_reads (kind_of key.factor)
kind_in_reads trade (row.Notional qualifier amount) = refl
kind_in_reads trade (row.FixedAmount amount) = refl
kind_in_reads trade (row.NotionalFactor qualifier factor) = refl
kind_in_reads trade (row.Multiplier product factor) = refl

typed_reads : (t : Texts) (k : RiskType) (e : Entry) → kind_named t.risk_type ≡ Some k → is_present_value k ≡ false → entry_of k t ≡ Ok e → typed_of t ≡ Ok (Some e)
unfolding typed_of
typed_reads t k e e1 e2 e3 = rw (e1, e2, e3) refl

model_reads : (t : Texts) → t.im_model ≡ [] → model_of t ≡ typed_of t
model_reads t e = rw e refl

text_row_reads : (t : Texts) → ArePlain t → row_of places (fields_in t) ≡ typed_of t
text_row_reads t plain = ap text_row_of (texts_read t plain) ∙ rw (text_read t plain) (model_reads t plain.no_model)

-- a written row gives just that row, in its trade
pub row_reads : (trade : List ℕ) (r : CrifRow) → IsName trade → IsSound trade r → row_of places (row_fields trade r) ≡ Ok (Some (record { trade = trade; row = r }))
row_reads trade r name s =
    ap (row_of places) (sym (row_texts_are trade r))
    ∙ text_row_reads (row_texts trade r) (plain_row trade r name s)
    ∙ typed_reads (row_texts trade r) (kind_in r) (record { trade = trade; row = r }) (kind_in_reads trade r) (kept_in r) (entry_reads trade r s)
