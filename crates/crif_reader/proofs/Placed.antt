-- Rows in their places: parameters stand in the trade without a name, and nothing else does. Rows that are added keep this, and the
-- parameters stay in the order of the file.
use Rattle.std.proofs.Common.{◌≡◌, ◌==◌, ◌∷◌, [], ◌++◌, ℕ, ◌+◌, ◌<◌, Bool, true, false, not, ◌&&◌, ◌||◌, cond, List, length, map, inl, inr, ◌⊎◌, refl, sym, ap, subst, ◌∙◌, arith, append_assoc, length-append}
use Rattle.std.specs.List.{list_any, flat_map, AllByRecursion}
use Rattle.std.proofs.lemmas.Bool.{cases_Bool, or_parts, eqb-true, ne_eqb}
use Rattle.std.proofs.lemmas.Grind.{flat_map-append}
use Rattle.std.proofs.lemmas.List.{append-nil, nil_from_length}
use Rattle.crif_records.specs.SimmKinds.declared.row.CrifRow.{CrifRow}
use Rattle.crif_records.specs.SimmKinds.declared.row.CrifRow.TheVariants as row
use Rattle.crif_records.specs.SimmKinds.declared.row.TradeRows.{TradeRows}
use Rattle.crif_records.specs.SimmKinds.Batch.{rows_of, repeats, factor_names, multiplied, is_astray, is_in_range, is_param}
use Rattle.crif_records.specs.SimmKinds.NameText.{IsName}
use Rattle.crif_records.specs.SimmKinds.Order.{same_name}
use Rattle.crif_reader.specs.Row.{Entry}
use Rattle.crif_reader.specs.Growth.{with_entry}
use Rattle.crif_reader.proofs.All.{all_more}
use Rattle.crif_reader.proofs.Places.{longer, same_name-equal}

-- a row that may stand in a batch, in a trade of this name
pub record IsGoodRow (trade : List ℕ) (r : CrifRow) : Type 0 where
  pub place : is_astray trade r ≡ false
  pub range : is_in_range r ≡ true
  pub name : IsName trade

abbrev pub IsGoodEntry : Entry → Type 0
IsGoodEntry e = IsGoodRow e.trade e.row

pub record IsGoodTrade (t : TradeRows) : Type 0 where
  pub some : 0 < length t.rows
  pub rows : AllByRecursion (IsGoodRow t.trade) t.rows

-- ---- one more row

good_longer : (t : TradeRows) (e : Entry) → IsGoodTrade t → IsGoodRow t.trade e.row → IsGoodTrade (longer t e)
good_longer t e h k = record { some = omega (arith, length-append t.rows (e.row ∷ []), h.some); rows = all_more (IsGoodRow t.trade) t.rows e.row h.rows k }

pub good-with_entry : (ts : List TradeRows) (e : Entry) → AllByRecursion IsGoodTrade ts → IsGoodEntry e → AllByRecursion IsGoodTrade (with_entry ts e)
good-with_entry [] e h k = (record { some = omega arith; rows = (k, tt) }, tt)
good-with_entry (t ∷ ts) e h k =
    elim (cases_Bool (same_name e.trade t.trade)) [
      | inl here ↦ rw here (good_longer t e h.0 (subst (λ trade. IsGoodRow trade e.row) (same_name-equal e.trade t.trade here) k), h.1)
      | inr apart ↦ rw apart (h.0, good-with_entry ts e h.1 k)
    ]

pub count-with_entry : (ts : List TradeRows) (e : Entry) → length (rows_of (with_entry ts e)) ≡ length (rows_of ts) + 1
count-with_entry [] e = refl
count-with_entry (t ∷ ts) e =
    elim (same_name e.trade t.trade) as (λ here. length (rows_of (cond here (longer t e ∷ ts) (t ∷ with_entry ts e))) ≡ length (rows_of (t ∷ ts)) + 1) [
      | true ↦ omega (arith, length-append (t.rows ++ e.row ∷ []) (rows_of ts), length-append t.rows (e.row ∷ []), length-append t.rows (rows_of ts))
      | false ↦ omega (arith, length-append t.rows (rows_of (with_entry ts e)), length-append t.rows (rows_of ts), count-with_entry ts e)
    ]

-- ---- parameters

-- what only parameters have
abbrev pub IsOfParams : {A : Type 0} → (CrifRow → List A) → Type 0
IsOfParams part = (r : CrifRow) → is_param r ≡ false → part r ≡ []

pub names_of_params : IsOfParams factor_names
names_of_params (row.Sensitivity key amount) h = refl
names_of_params (row.Notional qualifier amount) h = refl
names_of_params (row.FixedAmount amount) h = refl
names_of_params (row.NotionalFactor qualifier factor) h = cc
names_of_params (row.Multiplier product factor) h = refl

pub products_of_params : IsOfParams multiplied
products_of_params (row.Sensitivity key amount) h = refl
products_of_params (row.Notional qualifier amount) h = refl
products_of_params (row.FixedAmount amount) h = refl
products_of_params (row.NotionalFactor qualifier factor) h = refl
products_of_params (row.Multiplier product factor) h = cc

named_row : (param nameless : Bool) → nameless ≡ false → (not param && nameless || param && not nameless) ≡ false → param ≡ false
named_row true true e h = cc
named_row true false e h = cc
named_row false nameless e h = refl

nameless_param : (param nameless : Bool) → param ≡ true → (not param && nameless || param && not nameless) ≡ false → nameless ≡ true
nameless_param true true e h = refl
nameless_param true false e h = cc
nameless_param false nameless e h = cc

has_name : (trade : List ℕ) → same_name [] trade ≡ false → (length trade == 0) ≡ false
has_name [] h = cc
has_name (b ∷ bs) h = ne_eqb (length (b ∷ bs)) 0 (omega arith)

-- a trade with a name has none
none_in : {A : Type 0} (part : CrifRow → List A) → IsOfParams part → (trade : List ℕ) → (length trade == 0) ≡ false → (rows : List CrifRow) → AllByRecursion (IsGoodRow trade) rows → flat_map part rows ≡ []
none_in part of_params trade named [] good = refl
none_in part of_params trade named (r ∷ rs) good = rw (of_params r (named_row (is_param r) (length trade == 0) named good.0.place)) (none_in part of_params trade named rs good.1)

none_of : {A : Type 0} (part : CrifRow → List A) → IsOfParams part → (ts : List TradeRows) → AllByRecursion IsGoodTrade ts → list_any (same_name []) (map (λ t. t.trade) ts) ≡ false → flat_map part (rows_of ts) ≡ []
none_of part of_params [] good named = refl
none_of part of_params (t ∷ ts) good named =
    let names = or_parts (same_name [] t.trade) (list_any (same_name []) (map (λ t. t.trade) ts)) named in
    flat_map-append part t.rows (rows_of ts) ∙ rw (none_in part of_params t.trade (has_name t.trade names.0) t.rows good.0.rows, none_of part of_params ts good.1 names.1) refl

-- the row that is added to a trade is no parameter, or no trade behind it has one
none_behind : {A : Type 0} (part : CrifRow → List A) → IsOfParams part → (t : TradeRows) (ts : List TradeRows) (e : Entry) → AllByRecursion IsGoodTrade ts → list_any (same_name t.trade) (map (λ t. t.trade) ts) ≡ false → e.trade ≡ t.trade → IsGoodEntry e
    → (part e.row ≡ []) ⊎ (flat_map part (rows_of ts) ≡ [])
none_behind part of_params t ts e good apart same k =
    elim (cases_Bool (is_param e.row)) [
      | inl param ↦
          let empty : e.trade ≡ [] = nil_from_length e.trade (eqb-true (length e.trade) 0 (nameless_param (is_param e.row) (length e.trade == 0) param k.place)) in
          inr (none_of part of_params ts good (rw (sym same ∙ empty) at apart))
      | inr other ↦ inl (of_params e.row other)
    ]

turned : {A : Type 0} (xs ys zs : List A) → (ys ≡ []) ⊎ (zs ≡ []) → (xs ++ ys) ++ zs ≡ (xs ++ zs) ++ ys
turned xs ys zs (inl none) = rw (none, append-nil xs) (sym (append-nil (xs ++ zs)))
turned xs ys zs (inr none) = rw (none, append-nil xs) (append-nil (xs ++ ys))

-- so the parameters of the trades stay in the order of the file
pub parts-with_entry : {A : Type 0} (part : CrifRow → List A) → IsOfParams part → (ts : List TradeRows) (e : Entry) → AllByRecursion IsGoodTrade ts → repeats same_name (map (λ t. t.trade) ts) ≡ false → IsGoodEntry e
    → flat_map part (rows_of (with_entry ts e)) ≡ flat_map part (rows_of ts) ++ part e.row
parts-with_entry part of_params [] e good once k = append-nil (part e.row)
parts-with_entry part of_params (t ∷ ts) e good once k =
    let names = or_parts (list_any (same_name t.trade) (map (λ t. t.trade) ts)) (repeats same_name (map (λ t. t.trade) ts)) once in
    let first = flat_map part t.rows in
    let rest = flat_map part (rows_of ts) in
    let all = flat_map-append part t.rows (rows_of ts) in
    elim (cases_Bool (same_name e.trade t.trade)) [
      | inl here ↦
          let more = flat_map-append part (t.rows ++ e.row ∷ []) (rows_of ts) ∙ ap (λ x. x ++ rest) (flat_map-append part t.rows (e.row ∷ []) ∙ ap (λ x. first ++ x) (append-nil (part e.row))) in
          rw here (more ∙ turned first (part e.row) rest (none_behind part of_params t ts e good.1 names.0 (same_name-equal e.trade t.trade here) k) ∙ ap (λ x. x ++ part e.row) (sym all))
      | inr apart ↦
          rw apart (flat_map-append part t.rows (rows_of (with_entry ts e))
          ∙ ap (λ x. first ++ x) (parts-with_entry part of_params ts e good.1 names.1 k)
          ∙ sym (append_assoc first rest (part e.row))
          ∙ ap (λ x. x ++ part e.row) (sym all))
    ]
