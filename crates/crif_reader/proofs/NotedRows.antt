-- Noting one more row.
use Rattle.std.proofs.Common.{◌≡◌, ◌∷◌, [], ◌++◌, ℕ, Bool, true, false, cond, ◌||◌, ◌⊎◌, inl, inr, List, refl, ap, sym, ◌∙◌}
use Rattle.std.specs.List.{list_any, flat_map}
use Rattle.std.proofs.lemmas.Grind.{flat_map-append}
use Rattle.std.proofs.lemmas.List.Folds.{list_any-append}
use Rattle.std.specs.BTreeSet.{contains}
use Rattle.crif_records.specs.SimmKinds.MhUnits.declared.quantities.Cents.{Cents}
use Rattle.crif_records.specs.SimmKinds.MhUnits.declared.quantities.Rate4.{Rate4}
use Rattle.crif_records.specs.SimmKinds.declared.key.FactorKey.{FactorKey}
use Rattle.crif_records.specs.SimmKinds.declared.kinds.ProductClass.{ProductClass}
use Rattle.crif_records.specs.SimmKinds.declared.kinds.ProductClass.TheVariants as product
use Rattle.crif_records.specs.SimmKinds.declared.row.CrifRow.{CrifRow}
use Rattle.crif_records.specs.SimmKinds.declared.row.CrifRow.TheVariants as row
use Rattle.crif_records.specs.SimmKinds.Batch.{factor_names, multiplied}
use Rattle.crif_records.specs.SimmKinds.Order.{name_cmp, same_name, same_product}
use Rattle.crif_reader.specs.declared.params.Multipliers.{Multipliers}
use Rattle.crif_reader.specs.declared.params.Params.{Params}
use Rattle.crif_reader.specs.Noted.{has_multiplier, with_multiplier, IsNoted}
use Rattle.crif_reader.proofs.Places.{same_name_comm}

or_none : (b : Bool) → b ≡ (b || false)
or_none true = refl
or_none false = refl

or_true : (b : Bool) → true ≡ (b || true)
or_true true = refl
or_true false = refl

or_last : (b x : Bool) → cond b true x ≡ (x || (b || false))
or_last true true = refl
or_last true false = refl
or_last false true = refl
or_last false false = refl

-- what is found among rows and one more row
found_more : {A : Type 0} (test : A → Bool) (part : CrifRow → List A) (rows : List CrifRow) (r : CrifRow) → list_any test (flat_map part (rows ++ r ∷ [])) ≡ (list_any test (flat_map part rows) || list_any test (part r ++ []))
found_more test part rows r = ap (list_any test) (flat_map-append part rows (r ∷ [])) ∙ list_any-append test (flat_map part rows) (part r ++ [])

found_same : {A : Type 0} (test : A → Bool) (part : CrifRow → List A) (rows : List CrifRow) (r : CrifRow) → part r ≡ [] → list_any test (flat_map part rows) ≡ list_any test (flat_map part (rows ++ r ∷ []))
found_same test part rows r none = or_none (list_any test (flat_map part rows)) ∙ sym (rw none at (found_more test part rows r))

noted_none : (params : Params) (before : List CrifRow) (r : CrifRow) → factor_names r ≡ [] → multiplied r ≡ [] → IsNoted params before → IsNoted params (before ++ r ∷ [])
noted_none params before r f m noted =
    record {
      factors = λ name. noted.factors name ∙ found_same (same_name name) factor_names before r f;
      multipliers = λ class. noted.multipliers class ∙ found_same (same_product class) multiplied before r m;
    }

pub noted_factor : (old new : Params) (before : List CrifRow) (qualifier : List ℕ) (factor : Rate4) → new.multipliers ≡ old.multipliers → ((name : List ℕ) → contains name_cmp new.factors name ≡ cond (same_name qualifier name) true (contains name_cmp old.factors name))
    → IsNoted old before → IsNoted new (before ++ row.NotionalFactor qualifier factor ∷ [])
noted_factor old new before qualifier factor kept more noted =
    record {
      factors = λ name.
          more name ∙ ap (λ x. cond (same_name qualifier name) true x) (noted.factors name) ∙ or_last (same_name qualifier name) _
          ∙ ap (λ b. list_any (same_name name) (flat_map factor_names before) || (b || false)) (same_name_comm qualifier name)
          ∙ sym (found_more (same_name name) factor_names before (row.NotionalFactor qualifier factor));
      multipliers = λ class. ap (λ m. has_multiplier m class) kept ∙ noted.multipliers class ∙ found_same (same_product class) multiplied before (row.NotionalFactor qualifier factor) refl;
    }

more_multipliers : (m : Multipliers) (added class : ProductClass) → has_multiplier (with_multiplier m added) class ≡ (has_multiplier m class || (same_product class added || false))
more_multipliers m product.RatesFX product.RatesFX = or_true m.rates_fx
more_multipliers m product.RatesFX product.Credit = or_none m.credit
more_multipliers m product.RatesFX product.Equity = or_none m.equity
more_multipliers m product.RatesFX product.Commodity = or_none m.commodity
more_multipliers m product.Credit product.RatesFX = or_none m.rates_fx
more_multipliers m product.Credit product.Credit = or_true m.credit
more_multipliers m product.Credit product.Equity = or_none m.equity
more_multipliers m product.Credit product.Commodity = or_none m.commodity
more_multipliers m product.Equity product.RatesFX = or_none m.rates_fx
more_multipliers m product.Equity product.Credit = or_none m.credit
more_multipliers m product.Equity product.Equity = or_true m.equity
more_multipliers m product.Equity product.Commodity = or_none m.commodity
more_multipliers m product.Commodity product.RatesFX = or_none m.rates_fx
more_multipliers m product.Commodity product.Credit = or_none m.credit
more_multipliers m product.Commodity product.Equity = or_none m.equity
more_multipliers m product.Commodity product.Commodity = or_true m.commodity

pub noted_multiplier : (old new : Params) (before : List CrifRow) (added : ProductClass) (factor : Rate4) → new.factors ≡ old.factors → new.multipliers ≡ with_multiplier old.multipliers added → IsNoted old before → IsNoted new (before ++ row.Multiplier added factor ∷ [])
noted_multiplier old new before added factor kept more noted =
    record {
      factors = λ name. ap (λ s. contains name_cmp s name) kept ∙ noted.factors name ∙ found_same (same_name name) factor_names before (row.Multiplier added factor) refl;
      multipliers = λ class.
          ap (λ m. has_multiplier m class) more ∙ more_multipliers old.multipliers added class
          ∙ ap (λ b. b || (same_product class added || false)) (noted.multipliers class)
          ∙ sym (found_more (same_product class) multiplied before (row.Multiplier added factor));
    }

-- a sensitivity, a notional or a fixed amount
abbrev pub IsOther : CrifRow → Type 0
IsOther r =
    ((key : FactorKey) × (amount : Cents) × (r ≡ row.Sensitivity key amount))
    ⊎ ((qualifier : List ℕ) × (amount : Cents) × (r ≡ row.Notional qualifier amount))
    ⊎ ((amount : Cents) × (r ≡ row.FixedAmount amount))

pub noted_other : (params : Params) (before : List CrifRow) (r : CrifRow) → IsOther r → IsNoted params before → IsNoted params (before ++ r ∷ [])
noted_other params before r (inl h) noted = noted_none params before r (rw h.2 refl) (rw h.2 refl) noted
noted_other params before r (inr (inl h)) noted = noted_none params before r (rw h.2 refl) (rw h.2 refl) noted
noted_other params before r (inr (inr h)) noted = noted_none params before r (rw h.1 refl) (rw h.1 refl) noted
