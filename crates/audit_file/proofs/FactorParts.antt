-- The risk factor that the grammar reads has the parts that are written: its qualifier, its bucket and its second label.
use Rattle.std.proofs.Common.{◌≡◌, ℕ, ◌+◌, ◌-◌, ◌*◌, ◌&&◌, true, List, [], ◌∷◌, take, drop, length, ◌==◌, codes, Some, None, Result, Ok, Err, IfOk, inl, inr, refl, sym, subst}
use Rattle.feed_events.specs.CrifReader.SimmKinds.declared.bucket.Bucket.{Bucket}
use Rattle.feed_events.specs.CrifReader.SimmKinds.declared.bucket.Bucket.TheVariants as bucket
use Rattle.feed_events.specs.CrifReader.SimmKinds.declared.factor.Factor.{Factor}
use Rattle.feed_events.specs.CrifReader.SimmKinds.declared.factor.Factor.TheVariants as factor
use Rattle.feed_events.specs.CrifReader.SimmKinds.declared.kinds.RiskType.{RiskType}
use Rattle.feed_events.specs.CrifReader.SimmKinds.declared.kinds.RiskType.TheVariants as kind
use Rattle.feed_events.specs.CrifReader.SimmKinds.Bucket.{bucket_named}
use Rattle.feed_events.specs.CrifReader.SimmKinds.BucketNumber.{is_bucket_number, is_first_digit, is_digit, bucket_numbered, bucket_number_named}
use Rattle.feed_events.specs.CrifReader.SimmKinds.Currency.{upper, currency_text}
use Rattle.feed_events.specs.CrifReader.SimmKinds.NameOrder.{comes_before}
use Rattle.feed_events.specs.CrifReader.SimmKinds.NameText.{is_currency, is_full_name, name_fault, IsName}
use Rattle.feed_events.specs.CrifReader.SimmKinds.Pair.{Pair, is_pair, pair_named}
use Rattle.feed_events.specs.CrifReader.SimmKinds.Pair.{pair_of as pair_in}
use Rattle.feed_events.specs.CrifReader.SimmKinds.Words.{is_word}
use Rattle.feed_events.specs.CrifReader.declared.fault.RowFault.{RowFault}
use Rattle.feed_events.specs.CrifReader.declared.fault.RowFault.TheVariants as fault
use Rattle.feed_events.specs.CrifReader.Fields.{Texts}
use Rattle.feed_events.specs.CrifReader.Factor.{factor_of, full_name_of, name_of, currency_of, pair_of, bucket_of, bucket_number_of, tenor_of, credit_tenor_of, sub_of, ir_curve_of, ir_vol_of, inflation_vol_of, credit_point_of, equity_of, equity_vol_of, commodity_of, commodity_vol_of, fx_vol_of, currency_by, index_by}
use Rattle.feed_events.specs.CrifReader.CrifRecords.Binds.{◌>>=◌}
use Rattle.feed_writer.proofs.CrifReader.CrifRecords.Binds.{bind_ok, same_ok, same_some, either, ok_if, some_if}
use Rattle.crif_writer.specs.Parts.{IsBucket, HasParts}
use Rattle.audit_file.proofs.Oks.{there, none_there, map_some, then_some, if_each}

-- ---- names

pub full_name_read : (f : RowFault) (text name : List ℕ) → full_name_of f text ≡ Ok name → is_full_name name ≡ true
full_name_read f text name e = let read = ok_if (is_full_name text) text f name e in subst (λ n. is_full_name n ≡ true) read.1 read.0

pub name_read : (f : RowFault) (text name : List ℕ) → name_of f text ≡ Ok name → IsName name
name_read f text name e = let read = ok_if _ text f name e in subst IsName read.1 (none_there (name_fault text) read.0)

-- ---- currencies

currency_in : (text c : List ℕ) → currency_text text ≡ Some c → is_currency c ≡ true
currency_in text c e = let read = some_if (is_currency (upper text)) c (upper text) (sym e) in subst (λ n. is_currency n ≡ true) (sym read.1) read.0

currency_read : (t : Texts) (c : List ℕ) → currency_of t ≡ Ok c → is_currency c ≡ true
currency_read t c e = currency_in t.qualifier c (there (currency_text t.qualifier) fault.Qualifier c e)

either_order : (a b : List ℕ) (p : Pair) → is_currency a ≡ true → is_currency b ≡ true → pair_in a b ≡ Some p → is_pair p ≡ true
either_order a b p first second e =
    elim (either (comes_before a b) _ _ (Some p) e) [
      | inl before ↦ subst (λ q. is_pair q ≡ true) (same_some _ p before.1) (rw (first, second, before.0) refl)
      | inr behind ↦
          let turned = some_if (comes_before b a) p (record { first = b; second = a }) (sym behind.1) in
          subst (λ q. is_pair q ≡ true) (sym turned.1) (rw (second, first, turned.0) refl)
    ]

pair_in_text : (text : List ℕ) (p : Pair) → pair_named text ≡ Some p → is_pair p ≡ true
pair_in_text text p e =
    elim (either (length text == 6) _ None (Some p) e) [
      | inl six ↦ then_some _ (currency_text (take 3 text)) p six.1 (λ a is_a e1.
          then_some _ (currency_text (drop 3 text)) p e1 (λ b is_b e2.
          either_order a b p (currency_in (take 3 text) a is_a) (currency_in (drop 3 text) b is_b) e2))
      | inr other ↦ cc (other.1)
    ]

pair_read : (t : Texts) (p : Pair) → pair_of t ≡ Ok p → is_pair p ≡ true
pair_read t p e = pair_in_text t.qualifier p (there (pair_named t.qualifier) fault.Qualifier p e)

-- ---- buckets

numbered : (m n : ℕ) → bucket_numbered m ≡ Some n → is_bucket_number n ≡ true
numbered m n e = let read = some_if (is_bucket_number m) n m (sym e) in subst (λ x. is_bucket_number x ≡ true) (sym read.1) read.0

number_in : (text : List ℕ) (n : ℕ) → bucket_number_named text ≡ Some n → is_bucket_number n ≡ true
number_in [] n e = cc
number_in (a ∷ []) n e =
    elim (either (is_first_digit a) _ None (Some n) e) [
      | inl digit ↦ numbered (a - 48) n digit.1
      | inr other ↦ cc (other.1)
    ]
number_in (a ∷ b ∷ []) n e =
    elim (either (is_first_digit a && is_digit b) _ None (Some n) e) [
      | inl digits ↦ numbered ((a - 48) * 10 + (b - 48)) n digits.1
      | inr other ↦ cc (other.1)
    ]
number_in (a ∷ b ∷ c ∷ more) n e = cc

number_read : (t : Texts) (n : ℕ) → bucket_number_of t ≡ Ok n → is_bucket_number n ≡ true
number_read t n e = number_in t.bucket n (there (bucket_number_named t.bucket) fault.Bucket n e)

bucket_in : (text : List ℕ) (b : Bucket) → bucket_named text ≡ Some b → IsBucket b
bucket_in text b e =
    elim (either (is_word (codes "Residual") text) _ _ (Some b) e) [
      | inl word ↦ subst IsBucket (same_some bucket.Residual b word.1) tt
      | inr number ↦ map_some (λ n. bucket.Number n) (bucket_number_named text) b number.1 (λ n is_n same. subst IsBucket same (number_in text n is_n))
    ]

bucket_read : (t : Texts) (b : Bucket) → bucket_of t ≡ Ok b → IsBucket b
bucket_read t b e = bucket_in t.bucket b (there (bucket_named t.bucket) fault.Bucket b e)

-- ---- interest rates

ir_curve_parts : (t : Texts) (f : Factor) → ir_curve_of t ≡ Ok f → HasParts f
unfolding ir_curve_of
ir_curve_parts t f h =
    bind_ok _ (currency_of t) f h (λ c is_c h1.
    bind_ok _ (tenor_of t) f h1 (λ n is_n h2.
    bind_ok _ (sub_of t) f h2 (λ s is_s h3.
    subst HasParts (same_ok _ f h3) (record { qualifier = currency_read t c is_c; bucket = tt; label2 = tt }))))

ir_vol_parts : (t : Texts) (f : Factor) → ir_vol_of t ≡ Ok f → HasParts f
unfolding ir_vol_of
ir_vol_parts t f h =
    bind_ok _ (currency_of t) f h (λ c is_c h1.
    bind_ok _ (tenor_of t) f h1 (λ n is_n h2.
    subst HasParts (same_ok _ f h2) (record { qualifier = currency_read t c is_c; bucket = tt; label2 = tt })))

inflation_vol_parts : (t : Texts) (f : Factor) → inflation_vol_of t ≡ Ok f → HasParts f
unfolding inflation_vol_of
inflation_vol_parts t f h =
    bind_ok _ (currency_of t) f h (λ c is_c h1.
    bind_ok _ (tenor_of t) f h1 (λ n is_n h2.
    subst HasParts (same_ok _ f h2) (record { qualifier = currency_read t c is_c; bucket = tt; label2 = tt })))

-- ---- credit

-- an issuer, its bucket, and a second label
record ArePoint (i : List ℕ) (b : Bucket) (l : List ℕ) : Type 0 where
  issuer : is_full_name i ≡ true
  bucket : IsBucket b
  label2 : IsName l

point_parts : (t : Texts) → IfOk (credit_point_of t) (λ p. ArePoint p.issuer p.bucket p.label2)
unfolding credit_point_of
point_parts t =
    if_each (credit_point_of t) (λ p. ArePoint p.issuer p.bucket p.label2) (λ p is_p.
    bind_ok _ (full_name_of fault.Qualifier t.qualifier) p is_p (λ i is_i h1.
    bind_ok _ (bucket_of t) p h1 (λ b is_b h2.
    bind_ok _ (credit_tenor_of t) p h2 (λ n is_n h3.
    bind_ok _ (name_of fault.Label2 t.label2) p h3 (λ l is_l h4.
    subst (λ q. ArePoint q.issuer q.bucket q.label2) (same_ok _ p h4) (record { issuer = full_name_read fault.Qualifier t.qualifier i is_i; bucket = bucket_read t b is_b; label2 = name_read fault.Label2 t.label2 l is_l }))))))

-- a factor that is made of what is read, of which so much is known
credit_parts : {A : Type 0} {Q : A → Type 0} (read : Result A RowFault) → IfOk read Q → (make : A → Factor) (f : Factor) → (read >>= λ x. Ok (make x)) ≡ Ok f → ((x : A) → Q x → HasParts (make x)) → HasParts f
credit_parts (Ok x) known make f h parts = subst HasParts (same_ok (make x) f h) (parts x known)
credit_parts (Err d) known make f h parts = cc

-- ---- equity and commodity

equity_parts : (t : Texts) (f : Factor) → equity_of t ≡ Ok f → HasParts f
unfolding equity_of
equity_parts t f h =
    bind_ok _ (full_name_of fault.Qualifier t.qualifier) f h (λ i is_i h1.
    bind_ok _ (bucket_of t) f h1 (λ b is_b h2.
    subst HasParts (same_ok _ f h2) (record { qualifier = full_name_read fault.Qualifier t.qualifier i is_i; bucket = bucket_read t b is_b; label2 = tt })))

equity_vol_parts : (t : Texts) (f : Factor) → equity_vol_of t ≡ Ok f → HasParts f
unfolding equity_vol_of
equity_vol_parts t f h =
    bind_ok _ (full_name_of fault.Qualifier t.qualifier) f h (λ i is_i h1.
    bind_ok _ (bucket_of t) f h1 (λ b is_b h2.
    bind_ok _ (tenor_of t) f h2 (λ n is_n h3.
    subst HasParts (same_ok _ f h3) (record { qualifier = full_name_read fault.Qualifier t.qualifier i is_i; bucket = bucket_read t b is_b; label2 = tt }))))

commodity_parts : (t : Texts) (f : Factor) → commodity_of t ≡ Ok f → HasParts f
unfolding commodity_of
commodity_parts t f h =
    bind_ok _ (full_name_of fault.Qualifier t.qualifier) f h (λ i is_i h1.
    bind_ok _ (bucket_number_of t) f h1 (λ b is_b h2.
    subst HasParts (same_ok _ f h2) (record { qualifier = full_name_read fault.Qualifier t.qualifier i is_i; bucket = number_read t b is_b; label2 = tt })))

commodity_vol_parts : (t : Texts) (f : Factor) → commodity_vol_of t ≡ Ok f → HasParts f
unfolding commodity_vol_of
commodity_vol_parts t f h =
    bind_ok _ (full_name_of fault.Qualifier t.qualifier) f h (λ i is_i h1.
    bind_ok _ (bucket_number_of t) f h1 (λ b is_b h2.
    bind_ok _ (tenor_of t) f h2 (λ n is_n h3.
    subst HasParts (same_ok _ f h3) (record { qualifier = full_name_read fault.Qualifier t.qualifier i is_i; bucket = number_read t b is_b; label2 = tt }))))

-- ---- exchange rates, and what has a qualifier alone

fx_vol_parts : (t : Texts) (f : Factor) → fx_vol_of t ≡ Ok f → HasParts f
unfolding fx_vol_of
fx_vol_parts t f h =
    bind_ok _ (pair_of t) f h (λ p is_p h1.
    bind_ok _ (tenor_of t) f h1 (λ n is_n h2.
    subst HasParts (same_ok _ f h2) (record { qualifier = pair_read t p is_p; bucket = tt; label2 = tt })))

currency_parts : (make : List ℕ → Factor) → ((c : List ℕ) → is_currency c ≡ true → HasParts (make c)) → (t : Texts) (f : Factor) → currency_by make t ≡ Ok f → HasParts f
currency_parts make parts t f h = bind_ok _ (currency_of t) f h (λ c is_c h1. subst HasParts (same_ok (make c) f h1) (parts c (currency_read t c is_c)))

index_parts : (make : List ℕ → Factor) → ((i : List ℕ) → is_full_name i ≡ true → HasParts (make i)) → (t : Texts) (f : Factor) → index_by make t ≡ Ok f → HasParts f
index_parts make parts t f h =
    bind_ok _ (full_name_of fault.Qualifier t.qualifier) f h (λ i is_i h1. subst HasParts (same_ok (make i) f h1) (parts i (full_name_read fault.Qualifier t.qualifier i is_i)))

-- ---- the table

pub factor_parts : (k : RiskType) (t : Texts) (f : Factor) → factor_of k t ≡ Ok f → HasParts f
factor_parts kind.IrCurve t f h = ir_curve_parts t f h
factor_parts kind.Inflation t f h = currency_parts (λ c. factor.Inflation c) (λ c is. record { qualifier = is; bucket = tt; label2 = tt }) t f h
factor_parts kind.XccyBasis t f h = currency_parts (λ c. factor.XccyBasis c) (λ c is. record { qualifier = is; bucket = tt; label2 = tt }) t f h
factor_parts kind.IrVol t f h = ir_vol_parts t f h
factor_parts kind.InflationVol t f h = inflation_vol_parts t f h
factor_parts kind.CreditQ t f h = credit_parts (credit_point_of t) (point_parts t) (λ p. factor.CreditQ p.issuer p.bucket p.tenor p.label2) f h (λ p is. record { qualifier = is.issuer; bucket = is.bucket; label2 = is.label2 })
factor_parts kind.CreditVol t f h = credit_parts (credit_point_of t) (point_parts t) (λ p. factor.CreditVol p.issuer p.bucket p.tenor p.label2) f h (λ p is. record { qualifier = is.issuer; bucket = is.bucket; label2 = is.label2 })
factor_parts kind.CreditNonQ t f h = credit_parts (credit_point_of t) (point_parts t) (λ p. factor.CreditNonQ p.issuer p.bucket p.tenor p.label2) f h (λ p is. record { qualifier = is.issuer; bucket = is.bucket; label2 = is.label2 })
factor_parts kind.CreditVolNonQ t f h = credit_parts (credit_point_of t) (point_parts t) (λ p. factor.CreditVolNonQ p.issuer p.bucket p.tenor p.label2) f h (λ p is. record { qualifier = is.issuer; bucket = is.bucket; label2 = is.label2 })
factor_parts kind.BaseCorr t f h = index_parts (λ i. factor.BaseCorr i) (λ i is. record { qualifier = is; bucket = tt; label2 = tt }) t f h
factor_parts kind.Equity t f h = equity_parts t f h
factor_parts kind.EquityVol t f h = equity_vol_parts t f h
factor_parts kind.Commodity t f h = commodity_parts t f h
factor_parts kind.CommodityVol t f h = commodity_vol_parts t f h
factor_parts kind.Fx t f h = currency_parts (λ c. factor.Fx c) (λ c is. record { qualifier = is; bucket = tt; label2 = tt }) t f h
factor_parts kind.FxVol t f h = fx_vol_parts t f h
factor_parts kind.Notional t f h = cc
factor_parts kind.AddOnNotionalFactor t f h = cc
factor_parts kind.AddOnFixedAmount t f h = cc
factor_parts kind.ProductClassMultiplier t f h = cc
factor_parts kind.Pv t f h = cc
