-- Batches of which no row is refused, and places of rows.
use Rattle.std.proofs.Common.{◌≡◌, ℕ, suc, ◌+◌, ◌<◌, ◌≤◌, List, [], ◌∷◌, length, drop, get_or, position, Option, Some, None, option_map, Bool, true, false, not, ◌&&◌, cond, nat_lt, refl, sym, ap, ◌∙◌, arith, add-one, drop-cons}
use Rattle.std.specs.List.{list_all, position_or_len}
use Rattle.std.proofs.lemmas.Bool.{and_from, ltb-false}
use Rattle.std.proofs.lemmas.List.Folds.{list_all-append}
use Rattle.book_margin.specs.SimmKinds.declared.row.TradeRows.{TradeRows}
use Rattle.book_margin.specs.SimmKinds.Batch.{rows_of}
use Rattle.book_margin.specs.SimmRules.Params.{Params}
use Rattle.book_margin.specs.SimmRules.Admits.{admits}
use Rattle.bucket_cache.specs.declared.place.RowPlace.{RowPlace}
use Rattle.bucket_cache.specs.Live.{unadmitted_row, row_at, unadmitted_from, first_unadmitted}

-- ---- no row is refused

unmapped : {A B : Type 0} (f : A → B) (o : Option A) → option_map f o ≡ None → o ≡ None
unmapped f None h = refl
unmapped f (Some x) h = absurd (cc)

not_found : {A : Type 0} (t : Bool) (x : A) → cond t (Some x) None ≡ None → t ≡ false
not_found true x h = absurd (cc)
not_found false x h = refl

all_before : {X : Type 0} (test : X → Bool) (xs : List X) → length xs ≤ position_or_len (λ x. not (test x)) xs → list_all test xs ≡ true
all_before test [] h = refl
all_before test (x ∷ xs) h = at (test x) h (all_before test xs)
  where
    at : (b : Bool) → length (x ∷ xs) ≤ cond (not (not b)) (1 + position_or_len (λ y. not (test y)) xs) 0 → (length xs ≤ position_or_len (λ y. not (test y)) xs → list_all test xs ≡ true) → (b && list_all test xs) ≡ true
    at true far rest = rest (omega arith)
    at false far rest = absurd (omega arith)

no_position : {X : Type 0} (test : X → Bool) (xs : List X) → option_map (λ i. i + 1) (position (λ x. not (test x)) xs) ≡ None → list_all test xs ≡ true
no_position test xs h =
    let past = not_found (nat_lt (position_or_len (λ x. not (test x)) xs) (length xs)) _ (unmapped (λ i. i + 1) (position (λ x. not (test x)) xs) h) in
    all_before test xs (ltb-false _ _ past)

none_here : (place : ℕ) (o : Option ℕ) (later : Option RowPlace) → row_at place o later ≡ None → (o ≡ None) × (later ≡ None)
none_here place None later h = (refl, h)
none_here place (Some row) later h = absurd (cc)

admitted_from : (place : ℕ) (p : Params) (ts : List TradeRows) → unadmitted_from place p ts ≡ None → list_all (admits p) (rows_of ts) ≡ true
admitted_from place p [] h = refl
admitted_from place p (t ∷ ts) h =
    let parts = none_here place (unadmitted_row p t.rows) (unadmitted_from (place + 1) p ts) h in
    list_all-append (admits p) t.rows (rows_of ts)
    ∙ and_from (list_all (admits p) t.rows) (list_all (admits p) (rows_of ts)) (no_position (admits p) t.rows parts.0) (admitted_from (place + 1) p ts parts.1)

pub all_admitted : (p : Params) (ts : List TradeRows) → first_unadmitted p ts ≡ None → list_all (admits p) (rows_of ts) ≡ true
all_admitted p ts h = admitted_from 1 p ts h

-- ---- trade by trade

abbrev pub unadmitted_after : Params → List TradeRows → ℕ → Option RowPlace
unadmitted_after p ts i = unadmitted_from (i + 1) p (drop i ts)

pub after_step : (p : Params) (ts : List TradeRows) (i : ℕ) (t : TradeRows) → i < length ts → t ≡ get_or ts i t → unadmitted_after p ts i ≡ row_at (i + 1) (unadmitted_row p t.rows) (unadmitted_after p ts (i + 1))
after_step p ts i t h at =
    ap (unadmitted_from (i + 1) p) (drop-cons ts i t h ∙ ap (λ x. x ∷ drop (suc i) ts) (sym at) ∙ ap (λ j. t ∷ drop j ts) (sym (add-one i)))
