-- What a record gives is a row in its place, with its amount in its range.
use Rattle.std.proofs.Common.{◌≡◌, ◌==◌, ℕ, ◌≤◌, ◌^◌, Bool, true, false, not, ◌&&◌, cond, ltb, ℤ, pos, int_le, unsigned_abs, [], List, length, Option, Some, None, is_none, ok_or, inl, inr, Result, Ok, Err, zero, suc, refl, ap, subst, ◌∙◌, codes}
use Rattle.std.specs.Result.{result_map_both}
use Rattle.std.specs.Str.{is_utf8}
use Rattle.std.proofs.lemmas.Str.{is_utf8-from_IsUtf8, IsUtf8-from_ascii}
use Rattle.std.proofs.lemmas.Str.Ascii.{IsAscii-nil}
use Rattle.std.proofs.lemmas.Bool.{and_parts, ltb-false, le-leb, not-true}
use Rattle.crif_records.specs.SimmKinds.MhUnits.declared.quantities.Cents.{Cents}
use Rattle.crif_records.specs.SimmKinds.MhUnits.declared.numeral.NumeralFault.{NumeralFault}
use Rattle.crif_records.specs.SimmKinds.MhUnits.declared.numeral.NumeralFault.TheVariants as faults
use Rattle.crif_records.specs.SimmKinds.MhUnits.declared.scan.Phase.TheVariants as phases
use Rattle.crif_records.specs.SimmKinds.MhUnits.Scan.{is_numeral, reach}
use Rattle.crif_records.specs.SimmKinds.MhUnits.Numeral.{cents_of, number_of, with_sign, signed, is_minus, magnitude}
use Rattle.crif_records.specs.SimmKinds.declared.kinds.RiskType.{RiskType}
use Rattle.crif_records.specs.SimmKinds.declared.kinds.RiskType.TheVariants as kind
use Rattle.crif_records.specs.SimmKinds.Batch.{is_amount}
use Rattle.crif_records.specs.SimmKinds.Kinds.{kind_named, product_named}
use Rattle.crif_records.specs.SimmKinds.Words.{is_word}
use Rattle.crif_records.specs.SimmKinds.NameText.{IsName, is_full_name, name_fault}
use Rattle.crif_records.specs.SimmKinds.declared.fault.NameFault.{NameFault}
use Rattle.crif_reader.specs.declared.columns.Columns.{Columns}
use Rattle.crif_reader.specs.declared.fault.RowFault.TheVariants as fault
use Rattle.crif_reader.specs.Fields.{Texts, texts_of, are_text}
use Rattle.crif_reader.specs.Factor.{factor_of, full_name_of, name_of}
use Rattle.crif_reader.specs.Row.{Entry, row_of, text_row_of, model_of, typed_of, entry_of, sensitivity_of, notional_of, fixed_amount_of, notional_factor_of, multiplier_of, if_within, is_present_value, trade_of, product_of, amount_of, rate_of, amount_text}
use Rattle.crif_records.proofs.Binds.{bind_ok, same_ok, same_some, either, ok_if, mapped_ok}
use Rattle.crif_reader.proofs.Placed.{IsGoodEntry}

-- ---- amounts

size-with_sign : (negative : Bool) (n : ℕ) → unsigned_abs (with_sign negative n) ≡ n
size-with_sign true zero = refl
size-with_sign true (suc n) = refl
size-with_sign false n = refl

no_fault : (b : Bool) (fault : NumeralFault) (r : Result ℤ NumeralFault) (n : ℤ) → cond b (Err fault) r ≡ Ok n → (b ≡ false) × (r ≡ Ok n)
no_fault true fault r n e = cc
no_fault false fault r n e = (refl, e)

same_value : (x n : ℤ) (r s : Result ℤ NumeralFault) → r ≡ Ok x → s ≡ Ok n → r ≡ s → x ≡ n
same_value x n r s p q e = cc

number_size : (places most : ℕ) (text : List ℕ) (n : ℤ) → number_of places most text ≡ Ok n → unsigned_abs n ≤ most
unfolding number_of
number_size places most text n e =
    let some = no_fault (length text == 0) faults.Empty _ n e in
    let short = no_fault (ltb 64 (length text)) faults.TooLong _ n some.1 in
    let numeral = no_fault (not (is_numeral text)) (faults.BadByte (reach phases.Start text)) _ n short.1 in
    let fits = no_fault (ltb most (magnitude places text)) faults.TooLarge _ n numeral.1 in
    let bound : unsigned_abs (signed text (magnitude places text)) ≤ most = rw (size-with_sign (is_minus text) (magnitude places text)) (ltb-false most (magnitude places text) fits.0) in
    subst (λ v. unsigned_abs v ≤ most) (same_value (signed text (magnitude places text)) n _ _ refl refl fits.1) bound

cents_are : (r : Result ℤ NumeralFault) (amount : Cents) → result_map_both (λ n. let c : Cents = record { 0 = n } in c) (λ e. e) r ≡ Ok amount → r ≡ Ok amount.0
cents_are (Ok n) amount e = ap (λ c. Ok c.0) (same_ok (record { 0 = n }) amount e)
cents_are (Err fault) amount e = cc

amount_fits : (t : Texts) (amount : Cents) → amount_of t ≡ Ok amount → is_amount amount.0 ≡ true
unfolding cents_of
amount_fits t amount e =
    let cents = cents_are (number_of 2 (10 ^ 15) (amount_text t)) amount (mapped_ok (λ d. fault.Amount d) (cents_of (amount_text t)) amount e) in
    le-leb (unsigned_abs amount.0) (10 ^ 15) (number_size 2 (10 ^ 15) (amount_text t) amount.0 cents)

-- ---- rows

trade_tests : (text trade : List ℕ) → full_name_of fault.Trade text ≡ Ok trade → (not (length trade == 0) ≡ true) × (is_none (name_fault trade) ≡ true)
trade_tests text trade e = let parts = ok_if (is_full_name text) text fault.Trade trade e in rw (← parts.1) (and_parts _ _ parts.0)

trade_named : (text trade : List ℕ) → full_name_of fault.Trade text ≡ Ok trade → (length trade == 0) ≡ false
trade_named text trade e = not-true (length trade == 0) (trade_tests text trade e).0

trade_is_name : (text trade : List ℕ) → full_name_of fault.Trade text ≡ Ok trade → IsName trade
trade_is_name text trade e = none_is (name_fault trade) (trade_tests text trade e).1
  where
    none_is : (o : Option NameFault) → is_none o ≡ true → o ≡ None
    none_is None h = refl
    none_is (Some f) h = cc

no_name : IsName []
no_name = let text : is_utf8 [] ≡ true = is_utf8-from_IsUtf8 [] (IsUtf8-from_ascii [] IsAscii-nil) in rw text refl

good_sensitivity : (k : RiskType) (t : Texts) (e : Entry) → sensitivity_of k t ≡ Ok e → IsGoodEntry e
unfolding sensitivity_of
good_sensitivity k t e h =
    bind_ok _ (trade_of t) e h (λ trade is_trade h1.
    bind_ok _ (product_of t) e h1 (λ product is_product h2.
    bind_ok _ (factor_of k t) e h2 (λ f is_factor h3.
    bind_ok _ (amount_of t) e h3 (λ amount is_amount h4.
    subst IsGoodEntry (same_ok _ e h4) (record { place = rw (trade_named t.trade_id trade is_trade) refl; range = amount_fits t amount is_amount; name = trade_is_name t.trade_id trade is_trade })))))

good_notional : (t : Texts) (e : Entry) → notional_of t ≡ Ok e → IsGoodEntry e
unfolding notional_of
good_notional t e h =
    bind_ok _ (trade_of t) e h (λ trade is_trade h1.
    bind_ok _ (name_of fault.Qualifier t.qualifier) e h1 (λ qualifier is_qualifier h2.
    bind_ok _ (amount_of t) e h2 (λ amount is_amount h3.
    subst IsGoodEntry (same_ok _ e h3) (record { place = rw (trade_named t.trade_id trade is_trade) refl; range = amount_fits t amount is_amount; name = trade_is_name t.trade_id trade is_trade }))))

good_fixed_amount : (t : Texts) (e : Entry) → fixed_amount_of t ≡ Ok e → IsGoodEntry e
unfolding fixed_amount_of
good_fixed_amount t e h =
    bind_ok _ (amount_of t) e h (λ amount is_amount h1.
    let least = ok_if (int_le (pos 0) amount.0) _ (fault.ParamRange amount.0) e h1 in
    subst IsGoodEntry least.1 (record { place = refl; range = rw (least.0, amount_fits t amount is_amount) refl; name = no_name }))

-- what gives an entry within two bounds is within them
within : (least most value : ℤ) (entry e : Entry) → if_within least most value entry ≡ Ok e → ((int_le least value && int_le value most) ≡ true) × (entry ≡ e)
within least most value entry e h = ok_if (int_le least value && int_le value most) entry (fault.ParamRange value) e h

good_notional_factor : (t : Texts) (e : Entry) → notional_factor_of t ≡ Ok e → IsGoodEntry e
unfolding notional_factor_of
good_notional_factor t e h =
    bind_ok _ (full_name_of fault.Qualifier t.qualifier) e h (λ qualifier is_qualifier h1.
    bind_ok _ (rate_of t) e h1 (λ factor is_factor h2.
    let range = within (pos 0) (pos 1000000) factor.0 _ e h2 in
    subst IsGoodEntry range.1 (record { place = refl; range = range.0; name = no_name })))

good_multiplier : (t : Texts) (e : Entry) → multiplier_of t ≡ Ok e → IsGoodEntry e
unfolding multiplier_of
good_multiplier t e h =
    bind_ok _ (ok_or (product_named t.qualifier) fault.Qualifier) e h (λ product is_product h1.
    bind_ok _ (rate_of t) e h1 (λ factor is_factor h2.
    let range = within (pos 10000) (pos 100000) factor.0 _ e h2 in
    subst IsGoodEntry range.1 (record { place = refl; range = range.0; name = no_name })))

good_entry : (k : RiskType) (t : Texts) (e : Entry) → entry_of k t ≡ Ok e → IsGoodEntry e
good_entry kind.IrCurve t e h = good_sensitivity kind.IrCurve t e h
good_entry kind.Inflation t e h = good_sensitivity kind.Inflation t e h
good_entry kind.XccyBasis t e h = good_sensitivity kind.XccyBasis t e h
good_entry kind.IrVol t e h = good_sensitivity kind.IrVol t e h
good_entry kind.InflationVol t e h = good_sensitivity kind.InflationVol t e h
good_entry kind.CreditQ t e h = good_sensitivity kind.CreditQ t e h
good_entry kind.CreditVol t e h = good_sensitivity kind.CreditVol t e h
good_entry kind.CreditNonQ t e h = good_sensitivity kind.CreditNonQ t e h
good_entry kind.CreditVolNonQ t e h = good_sensitivity kind.CreditVolNonQ t e h
good_entry kind.BaseCorr t e h = good_sensitivity kind.BaseCorr t e h
good_entry kind.Equity t e h = good_sensitivity kind.Equity t e h
good_entry kind.EquityVol t e h = good_sensitivity kind.EquityVol t e h
good_entry kind.Commodity t e h = good_sensitivity kind.Commodity t e h
good_entry kind.CommodityVol t e h = good_sensitivity kind.CommodityVol t e h
good_entry kind.Fx t e h = good_sensitivity kind.Fx t e h
good_entry kind.FxVol t e h = good_sensitivity kind.FxVol t e h
good_entry kind.Notional t e h = good_notional t e h
good_entry kind.AddOnNotionalFactor t e h = good_notional_factor t e h
good_entry kind.AddOnFixedAmount t e h = good_fixed_amount t e h
good_entry kind.ProductClassMultiplier t e h = good_multiplier t e h
good_entry kind.Pv t e h = cc

-- ---- the way of a record

good_typed : (t : Texts) (e : Entry) → typed_of t ≡ Ok (Some e) → IsGoodEntry e
unfolding typed_of
good_typed t e h =
    bind_ok _ (ok_or (kind_named t.risk_type) fault.RiskType) (Some e) h (λ k is_kind h1.
    elim (either (is_present_value k) (Ok None) _ (Ok (Some e)) h1) [
      | inl passed ↦ cc (passed.1)
      | inr other ↦ bind_ok _ (entry_of k t) (Some e) other.1 (λ entry is_entry h2. good_entry k t e (is_entry ∙ ap (λ x. Ok x) (same_some entry e (same_ok (Some entry) (Some e) h2))))
    ])

pub good_row : (columns : Columns) (fields : List (List ℕ)) (e : Entry) → row_of columns fields ≡ Ok (Some e) → IsGoodEntry e
good_row columns fields e h =
    let t = texts_of columns fields in
    elim (either (ltb columns.count (length fields)) (Err fault.FieldCount) (text_row_of t) (Ok (Some e)) h) [
      | inl more ↦ cc (more.1)
      | inr few ↦ elim (either (are_text t) (model_of t) (Err fault.NotUtf8) (Ok (Some e)) few.1) [
        | inl text ↦ elim (either (is_word (codes "Schedule") t.im_model) (Ok None) (typed_of t) (Ok (Some e)) text.1) [
          | inl schedule ↦ cc (schedule.1)
          | inr model ↦ good_typed t e model.1
        ]
        | inr bytes ↦ cc (bytes.1)
      ]
    ]
