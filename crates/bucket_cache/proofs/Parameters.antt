-- Parameters stand in the trade without a name alone, so a book has one factor of a qualifier where each of its trades has.
use Rattle.std.proofs.Common.{◌≡◌, ℕ, List, [], ◌∷◌, ◌++◌, length, find, Some, option_map, cond, Bool, true, false, true≢false, not, ◌||◌, ◌&&◌, ◌==◌, refl, ap, sym, ◌∙◌, append-nil}
use Rattle.std.specs.List.{list_all, list_any, flat_map}
use Rattle.std.proofs.Math.Dec.{eqb-suc-zero}
use Rattle.std.proofs.lemmas.Bool.{or_parts, and_parts, and_from, false_from_ne_true}
use Rattle.std.proofs.lemmas.Grind.{flat_map-append}
use Rattle.std.proofs.lemmas.List.Folds.{list_all-append}
use Rattle.book_margin.specs.SimmKinds.declared.row.CrifRow.{CrifRow}
use Rattle.book_margin.specs.SimmKinds.declared.row.CrifRow.TheVariants as row
use Rattle.book_margin.specs.SimmKinds.declared.row.TradeRows.{TradeRows}
use Rattle.book_margin.specs.SimmKinds.Batch.{rows_of, factor_names, is_param, is_misplaced}
use Rattle.book_margin.specs.SimmKinds.Order.{same_name}
use Rattle.book_margin.specs.SimmKinds.Repeats.{repeats}
use Rattle.book_margin.proofs.SimmKinds.Repeated.{repeats_front}
use Rattle.book_margin.specs.SimmRules.AddOns.{multiplier, notional_factor}
use Rattle.bucket_cache.specs.Live.{has_factors_once, rows_or_none, rows_in}
use Rattle.bucket_cache.specs.Entries.{names_of}
use Rattle.bucket_cache.proofs.Maps.{same_name-equal}

-- ---- what parameters alone have

-- a row that is no parameter is no factor
no_factor : (r : CrifRow) → is_param r ≡ false → factor_names r ≡ []
no_factor (row.Sensitivity key amount) h = refl
no_factor (row.Notional qualifier amount) h = refl
no_factor (row.FixedAmount amount) h = refl
no_factor (row.NotionalFactor qualifier factor) h = absurd (cc)
no_factor (row.Multiplier product factor) h = refl

not_param : (p n : Bool) → (not p && n || p && not n) ≡ false → n ≡ false → p ≡ false
not_param true true h e = absurd (cc)
not_param true false h e = h
not_param false n h e = refl

not_true : (b : Bool) → not b ≡ true → b ≡ false
not_true false h = refl
not_true true h = absurd (cc)

full_name : (name : List ℕ) → same_name [] name ≡ false → (length name == 0) ≡ false
full_name [] h = h
full_name (b ∷ name) h = eqb-suc-zero (length name)

module _ {X : Type 0} (of : CrifRow → List X) (none : (r : CrifRow) → is_param r ≡ false → of r ≡ []) where
  -- a trade that has a name has no parameters
  pub no_parameters : (n : Bool) (rows : List CrifRow) → n ≡ false → list_any (λ r. not (is_param r) && n || is_param r && not n) rows ≡ false → flat_map of rows ≡ []
  no_parameters n [] e h = refl
  no_parameters n (r ∷ rows) e h =
      let parts = or_parts (not (is_param r) && n || is_param r && not n) (list_any (λ q. not (is_param q) && n || is_param q && not n) rows) h in
      ap (λ xs. xs ++ flat_map of rows) (none r (not_param (is_param r) n parts.0 e)) ∙ no_parameters n rows e parts.1

  -- trades with other names than that of the trade without one have none
  pub none_named : (ts : List TradeRows) → list_any (same_name []) (names_of ts) ≡ false → list_all (λ t. not (is_misplaced t)) ts ≡ true → flat_map of (rows_of ts) ≡ []
  none_named [] h placed = refl
  none_named (t ∷ ts) h placed =
      let others = or_parts (same_name [] t.trade) (list_any (same_name []) (names_of ts)) h in
      let all = and_parts (not (is_misplaced t)) (list_all (λ u. not (is_misplaced u)) ts) placed in
      flat_map-append of t.rows (rows_of ts)
      ∙ ap (λ xs. xs ++ flat_map of (rows_of ts)) (no_parameters (length t.trade == 0) t.rows (full_name t.trade others.0) (not_true (is_misplaced t) all.0))
      ∙ none_named ts others.1 all.1

  -- so the trade without a name has them all
  pub parameters_stand : (ts : List TradeRows) → repeats same_name (names_of ts) ≡ false → list_all (λ t. not (is_misplaced t)) ts ≡ true → flat_map of (rows_in ts []) ≡ flat_map of (rows_of ts)
  parameters_stand [] named placed = refl
  parameters_stand (t ∷ ts) named placed =
      let others = or_parts (list_any (same_name t.trade) (names_of ts)) (repeats same_name (names_of ts)) named in
      let all = and_parts (not (is_misplaced t)) (list_all (λ u. not (is_misplaced u)) ts) placed in
      by (same_name [] t.trade) refl others.0 all.1 (not_true (is_misplaced t) all.0) (parameters_stand ts others.1 all.1)
      ∙ sym (flat_map-append of t.rows (rows_of ts))
    where
      by : (b : Bool) → same_name [] t.trade ≡ b → list_any (same_name t.trade) (names_of ts) ≡ false → list_all (λ u. not (is_misplaced u)) ts ≡ true → is_misplaced t ≡ false
          → flat_map of (rows_in ts []) ≡ flat_map of (rows_of ts)
          → flat_map of (rows_or_none (option_map (λ (u : TradeRows). u.rows) (cond b (Some t) (find (λ (u : TradeRows). same_name [] u.trade) ts)))) ≡ flat_map of t.rows ++ flat_map of (rows_of ts)
      by true e only rest here later =
          let same : [] ≡ t.trade = same_name-equal [] t.trade e in
          sym (append-nil (flat_map of t.rows))
          ∙ ap (λ xs. flat_map of t.rows ++ xs) (sym (none_named ts (ap (λ (n : List ℕ). list_any (same_name n) (names_of ts)) same ∙ only) rest))
      by false e only rest here later =
          later ∙ ap (λ xs. xs ++ flat_map of (rows_of ts)) (sym (no_parameters (length t.trade == 0) t.rows (full_name t.trade e) here))

pub factors_once : (ts : List TradeRows) → repeats same_name (names_of ts) ≡ false → list_all (λ t. not (is_misplaced t)) ts ≡ true → list_all has_factors_once ts ≡ true → repeats same_name (flat_map factor_names (rows_of ts)) ≡ false
factors_once [] named placed once = refl
factors_once (t ∷ ts) named placed once =
    let others = or_parts (list_any (same_name t.trade) (names_of ts)) (repeats same_name (names_of ts)) named in
    let all = and_parts (not (is_misplaced t)) (list_all (λ u. not (is_misplaced u)) ts) placed in
    let each = and_parts (has_factors_once t) (list_all has_factors_once ts) once in
    ap (repeats same_name) (flat_map-append factor_names t.rows (rows_of ts))
    ∙ first t.trade refl others.0 all.1 (not_true (is_misplaced t) all.0) (not_true (repeats same_name (flat_map factor_names t.rows)) each.0) (factors_once ts others.1 all.1 each.1)
  where
    first : (name : List ℕ) → t.trade ≡ name → list_any (same_name name) (names_of ts) ≡ false → list_all (λ u. not (is_misplaced u)) ts ≡ true → is_misplaced t ≡ false
        → repeats same_name (flat_map factor_names t.rows) ≡ false → repeats same_name (flat_map factor_names (rows_of ts)) ≡ false
        → repeats same_name (flat_map factor_names t.rows ++ flat_map factor_names (rows_of ts)) ≡ false
    first [] e none rest placed here later =
        ap (λ xs. repeats same_name (flat_map factor_names t.rows ++ xs)) (none_named factor_names no_factor ts none rest) ∙ ap (repeats same_name) (append-nil (flat_map factor_names t.rows)) ∙ here
    first (b ∷ name) e none rest placed here later =
        ap (λ xs. repeats same_name (xs ++ flat_map factor_names (rows_of ts))) (no_parameters factor_names no_factor (length t.trade == 0) t.rows (ap (λ n. length n == 0) e ∙ eqb-suc-zero (length name)) placed) ∙ later

-- ---- the trades of a batch, which has one factor of a qualifier

later_once : {A : Type 0} (same : A → A → Bool) (xs ys : List A) → repeats same (xs ++ ys) ≡ false → repeats same ys ≡ false
later_once same [] ys h = h
later_once same (x ∷ xs) ys h = later_once same xs ys (or_parts (list_any (same x) (xs ++ ys)) (repeats same (xs ++ ys)) h).1

first_once : {A : Type 0} (same : A → A → Bool) (xs ys : List A) → repeats same (xs ++ ys) ≡ false → repeats same xs ≡ false
first_once same xs ys h = false_from_ne_true (repeats same xs) (λ twice. true≢false (sym (repeats_front same xs ys twice) ∙ h))

pub each_once : (ts : List TradeRows) → repeats same_name (flat_map factor_names (rows_of ts)) ≡ false → list_all has_factors_once ts ≡ true
each_once [] h = refl
each_once (t ∷ ts) h =
    let split = ap (repeats same_name) (sym (flat_map-append factor_names t.rows (rows_of ts))) ∙ h in
    and_from (has_factors_once t) (list_all has_factors_once ts)
    (ap not (first_once same_name (flat_map factor_names t.rows) (flat_map factor_names (rows_of ts)) split))
    (each_once ts (later_once same_name (flat_map factor_names t.rows) (flat_map factor_names (rows_of ts)) split))

-- ---- the parameters of add-ons

pub no_notional_factor : (r : CrifRow) → is_param r ≡ false → notional_factor r ≡ []
no_notional_factor (row.Sensitivity key amount) h = refl
no_notional_factor (row.Notional qualifier amount) h = refl
no_notional_factor (row.FixedAmount amount) h = refl
no_notional_factor (row.NotionalFactor qualifier factor) h = absurd (cc)
no_notional_factor (row.Multiplier product factor) h = refl

pub no_multiplier : (r : CrifRow) → is_param r ≡ false → multiplier r ≡ []
no_multiplier (row.Sensitivity key amount) h = refl
no_multiplier (row.Notional qualifier amount) h = refl
no_multiplier (row.FixedAmount amount) h = refl
no_multiplier (row.NotionalFactor qualifier factor) h = refl
no_multiplier (row.Multiplier product factor) h = absurd (cc)

-- what all rows pass, those of a trade pass
pub each_named : (test : CrifRow → Bool) (name : List ℕ) (ts : List TradeRows) → list_all test (rows_of ts) ≡ true → list_all test (rows_in ts name) ≡ true
each_named test name [] h = refl
each_named test name (t ∷ ts) h =
    let parts = and_parts (list_all test t.rows) (list_all test (rows_of ts)) (sym (list_all-append test t.rows (rows_of ts)) ∙ h) in
    by (same_name name t.trade) parts.0 (each_named test name ts parts.1)
  where
    by : (b : Bool) → list_all test t.rows ≡ true → list_all test (rows_in ts name) ≡ true
        → list_all test (rows_or_none (option_map (λ (u : TradeRows). u.rows) (cond b (Some t) (find (λ (u : TradeRows). same_name name u.trade) ts)))) ≡ true
    by true here later = here
    by false here later = later
