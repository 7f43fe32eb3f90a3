-- Growing row by row makes the trades that gathering states.
use Rattle.std.proofs.Common.{◌≡◌, ◌∷◌, [], ◌++◌, ℕ, Bool, true, false, not, cond, List, map, length, filter, fold, arith, refl, ap, sym, ◌∙◌, ⊎_elim}
use Rattle.std.specs.List.{list_any}
use Rattle.std.proofs.lemmas.Bool.{cases_Bool, or_parts, or_from, not-false}
use Rattle.std.proofs.lemmas.List.{append-nil, append_assoc, map-append}
use Rattle.std.proofs.lemmas.List.Elements.{filter-append}
use Rattle.crif_records.specs.SimmKinds.declared.row.TradeRows.{TradeRows}
use Rattle.crif_records.specs.SimmKinds.Batch.{repeats}
use Rattle.crif_records.specs.SimmKinds.Order.{same_name}
use Rattle.crif_reader.specs.Row.{Entry}
use Rattle.crif_reader.specs.Trades.{trade_names, rows_under, gathered}
use Rattle.crif_reader.specs.Growth.{with_entry}
use Rattle.crif_reader.proofs.Places.{same_name-equal, same_name-refl, same_name_comm}

-- ---- names

-- the names with one more, if it is new
abbrev pub with_name : List (List ℕ) → List ℕ → List (List ℕ)
with_name [] name = name ∷ []
with_name (n ∷ ns) name = cond (same_name name n) (n ∷ ns) (n ∷ with_name ns name)

filter-with_name_no : (p : List ℕ → Bool) (ns : List (List ℕ)) (name : List ℕ) → p name ≡ false → filter p (with_name ns name) ≡ filter p ns
filter-with_name_no p [] name fails = rw fails refl
filter-with_name_no p (n ∷ ns) name fails =
    ⊎_elim
    (λ here. rw here refl)
    (λ apart. rw apart (ap (λ kept. cond (p n) (n ∷ kept) kept) (filter-with_name_no p ns name fails)))
    (cases_Bool (same_name name n))

filter-with_name_yes : (p : List ℕ → Bool) (ns : List (List ℕ)) (name : List ℕ) → p name ≡ true → filter p (with_name ns name) ≡ with_name (filter p ns) name
filter-with_name_yes p [] name passes = rw passes refl
filter-with_name_yes p (n ∷ ns) name passes =
    ⊎_elim
    (λ here.
    let kept : p n ≡ true = rw (sym (same_name-equal name n here)) passes in
    rw (here, kept) (rw here refl))
    (λ apart. ⊎_elim
    (λ (kept : p n ≡ true). rw (apart, kept) (rw apart (ap (λ (x : List (List ℕ)). n ∷ x) (filter-with_name_yes p ns name passes))))
    (λ (left : p n ≡ false).
    let front : filter p (with_name (n ∷ ns) name) ≡ filter p (with_name ns name) = rw apart (rw left refl) in
    let back : with_name (filter p (n ∷ ns)) name ≡ with_name (filter p ns) name = rw left refl in
    front ∙ filter-with_name_yes p ns name passes ∙ sym back)
    (cases_Bool (p n)))
    (cases_Bool (same_name name n))

pub trade_names-push : (es : List Entry) (e : Entry) → trade_names (es ++ e ∷ []) ≡ with_name (trade_names es) e.trade
trade_names-push [] e = refl
trade_names-push (d ∷ es) e =
    let p : List ℕ → Bool = λ other. not (same_name d.trade other) in
    ap (λ ns. d.trade ∷ filter p ns) (trade_names-push es e)
    ∙ ⊎_elim
    (λ here.
    let fails : p e.trade ≡ false = ap not (same_name_comm d.trade e.trade ∙ here) in
    rw here (ap (λ (x : List (List ℕ)). d.trade ∷ x) (filter-with_name_no p (trade_names es) e.trade fails)))
    (λ apart.
    let passes : p e.trade ≡ true = ap not (same_name_comm d.trade e.trade ∙ apart) in
    rw apart (ap (λ (x : List (List ℕ)). d.trade ∷ x) (filter-with_name_yes p (trade_names es) e.trade passes)))
    (cases_Bool (same_name e.trade d.trade))

-- ---- no name stands twice

list_any-filter : {A : Type 0} (f p : A → Bool) (xs : List A) → list_any f xs ≡ false → list_any f (filter p xs) ≡ false
list_any-filter f p [] h = refl
list_any-filter f p (x ∷ xs) h =
    let parts = or_parts (f x) (list_any f xs) h in
    let next = list_any-filter f p xs parts.1 in
    ⊎_elim
    (λ kept. rw kept (or_from _ _ parts.0 next))
    (λ left. rw left next)
    (cases_Bool (p x))

-- what fails where it is kept, and passes only where it is kept, fails everywhere
list_any_from_filter : {A : Type 0} (f p : A → Bool) → ((x : A) → p x ≡ false → f x ≡ false) → (xs : List A) → list_any f (filter p xs) ≡ false → list_any f xs ≡ false
list_any_from_filter f p only [] h = refl
list_any_from_filter f p only (x ∷ xs) h =
    ⊎_elim
    (λ kept. let parts = or_parts (f x) (list_any f (filter p xs)) (rw kept at h) in or_from _ _ parts.0 (list_any_from_filter f p only xs parts.1))
    (λ left. or_from _ _ (only x left) (list_any_from_filter f p only xs (rw left at h)))
    (cases_Bool (p x))

list_any_left : {A : Type 0} (f : A → Bool) (xs : List A) → list_any f (filter (λ x. not (f x)) xs) ≡ false
list_any_left f [] = refl
list_any_left f (x ∷ xs) =
    ⊎_elim
    (λ passes. rw passes (list_any_left f xs))
    (λ fails. rw fails (or_from _ _ fails (list_any_left f xs)))
    (cases_Bool (f x))

repeats-filter : {A : Type 0} (same : A → A → Bool) (p : A → Bool) (xs : List A) → repeats same xs ≡ false → repeats same (filter p xs) ≡ false
repeats-filter same p [] h = refl
repeats-filter same p (x ∷ xs) h =
    let parts = or_parts (list_any (same x) xs) (repeats same xs) h in
    let next = repeats-filter same p xs parts.1 in
    ⊎_elim
    (λ kept. rw kept (or_from _ _ (list_any-filter (same x) p xs parts.0) next))
    (λ left. rw left next)
    (cases_Bool (p x))

pub repeats-trade_names : (es : List Entry) → repeats same_name (trade_names es) ≡ false
repeats-trade_names [] = refl
repeats-trade_names (e ∷ es) =
    or_from _ _ (list_any_left (same_name e.trade) (trade_names es)) (repeats-filter same_name (λ other. not (same_name e.trade other)) (trade_names es) (repeats-trade_names es))

-- ---- the rows of a trade

rows_under-push : (name : List ℕ) (es : List Entry) (e : Entry) → rows_under name (es ++ e ∷ []) ≡ rows_under name es ++ map (λ d. d.row) (cond (same_name name e.trade) (e ∷ []) [])
rows_under-push name es e = ap (map (λ d. d.row)) (filter-append (λ d. same_name name d.trade) es (e ∷ [])) ∙ map-append (λ d. d.row) (filter (λ d. same_name name d.trade) es) _

rows_under_more : (name : List ℕ) (es : List Entry) (e : Entry) → same_name name e.trade ≡ true → rows_under name (es ++ e ∷ []) ≡ rows_under name es ++ e.row ∷ []
rows_under_more name es e here = rw here at (rows_under-push name es e)

rows_under_same : (name : List ℕ) (es : List Entry) (e : Entry) → same_name name e.trade ≡ false → rows_under name (es ++ e ∷ []) ≡ rows_under name es
rows_under_same name es e apart = rw apart at (rows_under-push name es e) ∙ append-nil (rows_under name es)

-- a name that no trade has, has no rows
rows_under_none : (name : List ℕ) (es : List Entry) → list_any (same_name name) (trade_names es) ≡ false → rows_under name es ≡ []
rows_under_none name [] h = refl
rows_under_none name (e ∷ es) h =
    let p : List ℕ → Bool = λ other. not (same_name e.trade other) in
    let parts = or_parts (same_name name e.trade) (list_any (same_name name) (filter p (trade_names es))) h in
    let only : (other : List ℕ) → p other ≡ false → same_name name other ≡ false = λ other left. rw (sym (same_name-equal e.trade other (not-false (same_name e.trade other) left))) parts.0 in
    rw parts.0 (rows_under_none name es (list_any_from_filter (same_name name) p only (trade_names es) parts.1))

-- ---- the trades

abbrev pub trade_in : List Entry → List ℕ → TradeRows
trade_in es name = record { trade = name; rows = rows_under name es }

others_same : (es : List Entry) (e : Entry) (ns : List (List ℕ)) → list_any (same_name e.trade) ns ≡ false → map (trade_in (es ++ e ∷ [])) ns ≡ map (trade_in es) ns
others_same es e [] h = refl
others_same es e (n ∷ ns) h =
    let parts = or_parts (same_name e.trade n) (list_any (same_name e.trade) ns) h in
    let apart : same_name n e.trade ≡ false = same_name_comm n e.trade ∙ parts.0 in
    rw (rows_under_same n es e apart, others_same es e ns parts.1) refl

map-with_name : (es : List Entry) (e : Entry) (ns : List (List ℕ)) → repeats same_name ns ≡ false → (list_any (same_name e.trade) ns ≡ false → rows_under e.trade es ≡ [])
    → map (trade_in (es ++ e ∷ [])) (with_name ns e.trade) ≡ with_entry (map (trade_in es) ns) e
map-with_name es e [] once none = rw (rows_under_more e.trade es e (same_name-refl e.trade), none refl) refl
map-with_name es e (n ∷ ns) once none =
    let parts = or_parts (list_any (same_name n) ns) (repeats same_name ns) once in
    ⊎_elim
    (λ here.
    let more = rows_under_more n es e (same_name_comm n e.trade ∙ here) in
    let rest = others_same es e ns (rw (same_name-equal e.trade n here) parts.0) in
    rw (here, more, rest) refl)
    (λ apart.
    let same = rows_under_same n es e (same_name_comm n e.trade ∙ apart) in
    let next = map-with_name es e ns parts.1 (λ h. none (or_from _ _ apart h)) in
    rw (apart, same, next) refl)
    (cases_Bool (same_name e.trade n))

pub gathered-push : (es : List Entry) (e : Entry) → gathered (es ++ e ∷ []) ≡ with_entry (gathered es) e
unfolding gathered
gathered-push es e =
    ap (map (trade_in (es ++ e ∷ []))) (trade_names-push es e) ∙ map-with_name es e (trade_names es) (repeats-trade_names es) (rows_under_none e.trade es)

grown_on : (es more : List Entry) → fold with_entry (gathered es) more ≡ gathered (es ++ more)
grown_on es [] = ap gathered (sym (append-nil es))
grown_on es (e ∷ more) =
    ap (λ trades. fold with_entry trades more) (sym (gathered-push es e)) ∙ grown_on (es ++ e ∷ []) more ∙ ap gathered (append_assoc es (e ∷ []) more)

gathered_none : gathered [] ≡ []
unfolding gathered
gathered_none = refl

-- row by row from no trades
pub grown-gathered : (es : List Entry) → fold with_entry [] es ≡ gathered es
grown-gathered es = ap (λ trades. fold with_entry trades es) (sym gathered_none) ∙ grown_on [] es

-- where there is no trade there is no row
pub gathered_some : (es : List Entry) → length (gathered es) ≡ 0 → length es ≡ 0
unfolding gathered
gathered_some [] h = refl
gathered_some (e ∷ es) h = absurd (omega (arith, h))
