-- A row that the grammar reads has the parts that are written.
use Rattle.std.proofs.Common.{◌≡◌, ℕ, ◌&&◌, ltb, pos, int_le, List, length, codes, Some, None, Ok, ok_or, inl, inr, ap, ◌∙◌, subst}
use Rattle.feed_events.specs.CrifReader.SimmKinds.declared.kinds.RiskType.{RiskType}
use Rattle.feed_events.specs.CrifReader.SimmKinds.declared.kinds.RiskType.TheVariants as kind
use Rattle.feed_events.specs.CrifReader.SimmKinds.Kinds.{kind_named, product_named}
use Rattle.feed_events.specs.CrifReader.SimmKinds.NameText.{IsName}
use Rattle.feed_events.specs.CrifReader.SimmKinds.Words.{is_word}
use Rattle.feed_events.specs.CrifReader.declared.columns.Columns.{Columns}
use Rattle.feed_events.specs.CrifReader.declared.fault.RowFault.TheVariants as fault
use Rattle.feed_events.specs.CrifReader.Fields.{Texts, texts_of, are_text}
use Rattle.feed_events.specs.CrifReader.Factor.{factor_of, full_name_of, name_of}
use Rattle.feed_events.specs.CrifReader.Row.{Entry, row_of, text_row_of, model_of, typed_of, entry_of, sensitivity_of, notional_of, fixed_amount_of, notional_factor_of, multiplier_of, is_present_value, trade_of, product_of, amount_of, rate_of}
use Rattle.feed_writer.proofs.CrifReader.CrifRecords.Binds.{bind_ok, same_ok, same_some, either, ok_if}
use Rattle.feed_writer.proofs.CrifReader.GoodRows.{good_row}
use Rattle.crif_writer.specs.Rows.{HasRowParts}
use Rattle.audit_file.proofs.Oks.{passed, not_failed}
use Rattle.audit_file.proofs.FactorParts.{full_name_read, name_read, factor_parts}

abbrev HasEntryRow : Entry → Type 0
HasEntryRow e = HasRowParts e.row

-- ---- by risk type

sensitivity_parts : (k : RiskType) (t : Texts) (e : Entry) → sensitivity_of k t ≡ Ok e → HasEntryRow e
unfolding sensitivity_of
sensitivity_parts k t e h =
    bind_ok _ (trade_of t) e h (λ trade is_trade h1.
    bind_ok _ (product_of t) e h1 (λ product is_product h2.
    bind_ok _ (factor_of k t) e h2 (λ f is_factor h3.
    bind_ok _ (amount_of t) e h3 (λ amount is_amount h4.
    subst HasEntryRow (same_ok _ e h4) (factor_parts k t f is_factor)))))

notional_parts : (t : Texts) (e : Entry) → notional_of t ≡ Ok e → HasEntryRow e
unfolding notional_of
notional_parts t e h =
    bind_ok _ (trade_of t) e h (λ trade is_trade h1.
    bind_ok _ (name_of fault.Qualifier t.qualifier) e h1 (λ qualifier is_qualifier h2.
    bind_ok _ (amount_of t) e h2 (λ amount is_amount h3.
    subst HasEntryRow (same_ok _ e h3) (name_read fault.Qualifier t.qualifier qualifier is_qualifier))))

fixed_amount_parts : (t : Texts) (e : Entry) → fixed_amount_of t ≡ Ok e → HasEntryRow e
unfolding fixed_amount_of
fixed_amount_parts t e h =
    bind_ok _ (amount_of t) e h (λ amount is_amount h1.
    let least = ok_if (int_le (pos 0) amount.0) _ (fault.ParamRange amount.0) e h1 in
    subst HasEntryRow least.1 tt)

notional_factor_parts : (t : Texts) (e : Entry) → notional_factor_of t ≡ Ok e → HasEntryRow e
unfolding notional_factor_of
notional_factor_parts t e h =
    bind_ok _ (full_name_of fault.Qualifier t.qualifier) e h (λ qualifier is_qualifier h1.
    bind_ok _ (rate_of t) e h1 (λ factor is_factor h2.
    let range = ok_if (int_le (pos 0) factor.0 && int_le factor.0 (pos 1000000)) _ (fault.ParamRange factor.0) e h2 in
    subst HasEntryRow range.1 (full_name_read fault.Qualifier t.qualifier qualifier is_qualifier)))

multiplier_parts : (t : Texts) (e : Entry) → multiplier_of t ≡ Ok e → HasEntryRow e
unfolding multiplier_of
multiplier_parts t e h =
    bind_ok _ (ok_or (product_named t.qualifier) fault.Qualifier) e h (λ product is_product h1.
    bind_ok _ (rate_of t) e h1 (λ factor is_factor h2.
    let range = ok_if (int_le (pos 10000) factor.0 && int_le factor.0 (pos 100000)) _ (fault.ParamRange factor.0) e h2 in
    subst HasEntryRow range.1 tt))

kind_parts : (k : RiskType) (t : Texts) (e : Entry) → entry_of k t ≡ Ok e → HasEntryRow e
kind_parts kind.IrCurve t e h = sensitivity_parts kind.IrCurve t e h
kind_parts kind.Inflation t e h = sensitivity_parts kind.Inflation t e h
kind_parts kind.XccyBasis t e h = sensitivity_parts kind.XccyBasis t e h
kind_parts kind.IrVol t e h = sensitivity_parts kind.IrVol t e h
kind_parts kind.InflationVol t e h = sensitivity_parts kind.InflationVol t e h
kind_parts kind.CreditQ t e h = sensitivity_parts kind.CreditQ t e h
kind_parts kind.CreditVol t e h = sensitivity_parts kind.CreditVol t e h
kind_parts kind.CreditNonQ t e h = sensitivity_parts kind.CreditNonQ t e h
kind_parts kind.CreditVolNonQ t e h = sensitivity_parts kind.CreditVolNonQ t e h
kind_parts kind.BaseCorr t e h = sensitivity_parts kind.BaseCorr t e h
kind_parts kind.Equity t e h = sensitivity_parts kind.Equity t e h
kind_parts kind.EquityVol t e h = sensitivity_parts kind.EquityVol t e h
kind_parts kind.Commodity t e h = sensitivity_parts kind.Commodity t e h
kind_parts kind.CommodityVol t e h = sensitivity_parts kind.CommodityVol t e h
kind_parts kind.Fx t e h = sensitivity_parts kind.Fx t e h
kind_parts kind.FxVol t e h = sensitivity_parts kind.FxVol t e h
kind_parts kind.Notional t e h = notional_parts t e h
kind_parts kind.AddOnNotionalFactor t e h = notional_factor_parts t e h
kind_parts kind.AddOnFixedAmount t e h = fixed_amount_parts t e h
kind_parts kind.ProductClassMultiplier t e h = multiplier_parts t e h
kind_parts kind.Pv t e h = cc

-- ---- the way of a record

typed_parts : (t : Texts) (e : Entry) → typed_of t ≡ Ok (Some e) → HasEntryRow e
unfolding typed_of
typed_parts t e h =
    bind_ok _ (ok_or (kind_named t.risk_type) fault.RiskType) (Some e) h (λ k is_kind h1.
    elim (either (is_present_value k) (Ok None) _ (Ok (Some e)) h1) [
      | inl passed ↦ cc (passed.1)
      | inr other ↦ bind_ok _ (entry_of k t) (Some e) other.1 (λ entry is_entry h2. kind_parts k t e (is_entry ∙ ap (λ x. Ok x) (same_some entry e (same_ok (Some entry) (Some e) h2))))
    ])

text_parts : (columns : Columns) (fields : List (List ℕ)) (e : Entry) → row_of columns fields ≡ Ok (Some e) → HasEntryRow e
text_parts columns fields e h =
    let t = texts_of columns fields in
    let few = not_failed (ltb columns.count (length fields)) fault.FieldCount (text_row_of t) (Some e) h in
    elim (either (is_word (codes "Schedule") t.im_model) (Ok None) (typed_of t) (Ok (Some e)) (passed (are_text t) fault.NotUtf8 (model_of t) (Some e) few)) [
      | inl schedule ↦ cc (schedule.1)
      | inr model ↦ typed_parts t e model.1
    ]

-- an entry whose trade has a name, and whose row has its parts
pub record HasEntryParts (e : Entry) : Type 0 where
  pub name : IsName e.trade
  pub row : HasRowParts e.row

pub entry_parts : (columns : Columns) (fields : List (List ℕ)) (e : Entry) → row_of columns fields ≡ Ok (Some e) → HasEntryParts e
entry_parts columns fields e h = record { name = (good_row columns fields e h).name; row = text_parts columns fields e h }
