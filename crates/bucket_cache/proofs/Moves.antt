-- What a batch and a withdrawal make of the rows of a book, in whatever order these stand.
use Rattle.std.proofs.Common.{◌≡◌, ℕ, List, [], ◌∷◌, ◌++◌, find, Option, Some, option_map, Bool, true, false, not, ◌||◌, ◌&&◌, cond, if◌then◌else◌, refl, sym, ap, ◌∙◌, subst, append_assoc, append-nil}
use Rattle.std.specs.List.{flat_map, list_all, list_any}
use Rattle.std.specs.List.Sorted.{IsPermutation}
use Rattle.std.proofs.lemmas.Bool.{or_parts}
use Rattle.std.proofs.lemmas.List.Sorted.{IsPermutation-refl, IsPermutation-sym, IsPermutation-trans, IsPermutation-append_left, IsPermutation-append_right, IsPermutation-append_comm, list_any-IsPermutation}
use Rattle.book_margin.specs.SimmKinds.declared.row.CrifRow.{CrifRow}
use Rattle.book_margin.specs.SimmKinds.declared.row.TradeRows.{TradeRows}
use Rattle.book_margin.specs.SimmKinds.Batch.{rows_of}
use Rattle.book_margin.specs.SimmKinds.Order.{same_name}
use Rattle.book_margin.specs.SimmKinds.Repeats.{repeats}
use Rattle.bucket_cache.specs.Live.{put_trade, put_trades, without, named, rows_or_none, rows_in}
use Rattle.bucket_cache.specs.Entries.{names_of}
use Rattle.bucket_cache.proofs.Maps.{same_name-equal, same_name-sym}
use Rattle.bucket_cache.proofs.Puts.{named_puts}

-- ---- lists in another order

pub after : {X : Type 0} {xs ys zs : List X} → IsPermutation xs ys → IsPermutation ys zs → IsPermutation xs zs
after {xs = xs} {ys = ys} {zs = zs} h g = IsPermutation-trans xs ys zs h g

pub same_as : {X : Type 0} {xs ys : List X} → xs ≡ ys → IsPermutation xs ys
same_as {xs = xs} e = subst (IsPermutation xs) e (IsPermutation-refl xs)

-- the second part goes to the front
pub to_front : {X : Type 0} (a b c : List X) → IsPermutation (a ++ (b ++ c)) (b ++ (a ++ c))
to_front a b c =
    after (same_as (sym (append_assoc a b c)))
    (after (IsPermutation-append_left c (a ++ b) (b ++ a) (IsPermutation-append_comm a b)) (same_as (append_assoc b a c)))

pub on_right : {X : Type 0} (zs : List X) {xs ys : List X} → IsPermutation xs ys → IsPermutation (zs ++ xs) (zs ++ ys)
on_right zs {xs = xs} {ys = ys} h = IsPermutation-append_right zs xs ys h

pub on_left : {X : Type 0} (zs : List X) {xs ys : List X} → IsPermutation xs ys → IsPermutation (xs ++ zs) (ys ++ zs)
on_left zs {xs = xs} {ys = ys} h = IsPermutation-append_left zs xs ys h

pub turned : {X : Type 0} {xs ys : List X} → IsPermutation xs ys → IsPermutation ys xs
turned {xs = xs} {ys = ys} h = IsPermutation-sym xs ys h

all_or : {X : Type 0} (test : X → Bool) (xs : List X) → list_all test xs ≡ not (list_any (λ x. not (test x)) xs)
all_or test [] = refl
all_or test (x ∷ xs) = at (test x) (all_or test xs)
  where
    at : (b : Bool) → list_all test xs ≡ not (list_any (λ y. not (test y)) xs) → (b && list_all test xs) ≡ not (not b || list_any (λ y. not (test y)) xs)
    at true h = h
    at false h = refl

pub list_all-IsPermutation : {X : Type 0} (test : X → Bool) {xs ys : List X} → IsPermutation xs ys → list_all test xs ≡ list_all test ys
list_all-IsPermutation test {xs = xs} {ys = ys} h =
    all_or test xs ∙ ap not (list_any-IsPermutation (λ x. not (test x)) xs ys h) ∙ sym (all_or test ys)

-- ---- the trades that are named, and the others

-- no trade has the first name
others_left : (name : List ℕ) (names : List (List ℕ)) (us : List TradeRows) → list_any (same_name name) (names_of us) ≡ false → without (name ∷ names) us ≡ without names us
others_left name names [] h = refl
others_left name names (u ∷ us) h =
    let parts = or_parts (same_name name u.trade) (list_any (same_name name) (names_of us)) h in
    let other : (same_name u.trade name || list_any (same_name u.trade) names) ≡ list_any (same_name u.trade) names = ap (λ (b : Bool). b || list_any (same_name u.trade) names) (same_name-sym u.trade name ∙ parts.0) in
    let rest = others_left name names us parts.1 in
    λ i. cond (not (other i)) (u ∷ rest i) (rest i)

others_named : (name : List ℕ) (names : List (List ℕ)) (us : List TradeRows) → list_any (same_name name) (names_of us) ≡ false → named (name ∷ names) us ≡ named names us
others_named name names [] h = refl
others_named name names (u ∷ us) h =
    let parts = or_parts (same_name name u.trade) (list_any (same_name name) (names_of us)) h in
    let other : (same_name u.trade name || list_any (same_name u.trade) names) ≡ list_any (same_name u.trade) names = ap (λ (b : Bool). b || list_any (same_name u.trade) names) (same_name-sym u.trade name ∙ parts.0) in
    let rest = others_named name names us parts.1 in
    λ i. cond (other i) (u ∷ rest i) (rest i)

without_none : (us : List TradeRows) → without [] us ≡ us
without_none [] = refl
without_none (u ∷ us) = ap (λ xs. u ∷ xs) (without_none us)

named_none : (us : List TradeRows) → named [] us ≡ []
named_none [] = refl
named_none (u ∷ us) = named_none us

-- the rows of the others, and those of the ones that are named
pub rows_apart : (names : List (List ℕ)) (us : List TradeRows) → IsPermutation (rows_of us) (rows_of (without names us) ++ rows_of (named names us))
rows_apart names [] = IsPermutation-refl []
rows_apart names (u ∷ us) = at (list_any (same_name u.trade) names) (rows_apart names us)
  where
    at : (b : Bool) → IsPermutation (rows_of us) (rows_of (without names us) ++ rows_of (named names us))
        → IsPermutation (u.rows ++ rows_of us) (rows_of (cond (not b) (u ∷ without names us) (without names us)) ++ rows_of (cond b (u ∷ named names us) (named names us)))
    at true h = after (on_right u.rows h) (to_front u.rows (rows_of (without names us)) (rows_of (named names us)))
    at false h = after (on_right u.rows h) (same_as (sym (append_assoc u.rows (rows_of (without names us)) (rows_of (named names us)))))

-- ---- a trade is put

put_there : (a s o : Bool) (u : TradeRows) (rows : List CrifRow) (xs ws : List TradeRows) → a ≡ false → s ≡ true → ws ≡ xs
    → IsPermutation (rows_of (cond (not a) (record u { rows = rows } ∷ xs) xs)) (rows_of (cond (not (s || o)) (u ∷ ws) ws) ++ rows)
put_there false true o u rows xs ws p q e = after (IsPermutation-append_comm rows (rows_of xs)) (same_as (ap (λ ys. rows_of ys ++ rows) (sym e)))
put_there true s o u rows xs ws p q e = absurd (cc)
put_there false false o u rows xs ws p q e = absurd (cc)

put_behind : (a s : Bool) (u : TradeRows) (rows : List CrifRow) (ps ws : List TradeRows) → s ≡ false → IsPermutation (rows_of ps) (rows_of ws ++ rows)
    → IsPermutation (rows_of (cond (not a) (u ∷ ps) ps)) (rows_of (cond (not (s || a)) (u ∷ ws) ws) ++ rows)
put_behind true false u rows ps ws e h = h
put_behind false false u rows ps ws e h = after (on_right u.rows h) (same_as (sym (append_assoc u.rows (rows_of ws) rows)))
put_behind a true u rows ps ws e h = absurd (cc)

put_apart : (t : TradeRows) (names : List (List ℕ)) (us : List TradeRows) → list_any (same_name t.trade) names ≡ false → repeats same_name (names_of us) ≡ false
    → IsPermutation (rows_of (without names (put_trade t us))) (rows_of (without (t.trade ∷ names) us) ++ t.rows)
put_apart t names [] new once = subst (λ (b : Bool). IsPermutation (rows_of (cond (not b) (t ∷ []) [])) t.rows) (sym new) (same_as (append-nil t.rows))
put_apart t names (u ∷ us) new once =
    let parts = or_parts (list_any (same_name u.trade) (names_of us)) (repeats same_name (names_of us)) once in
    by (same_name t.trade u.trade) refl parts.0 (put_apart t names us new parts.1)
  where
    by : (b : Bool) → same_name t.trade u.trade ≡ b → list_any (same_name u.trade) (names_of us) ≡ false
        → IsPermutation (rows_of (without names (put_trade t us))) (rows_of (without (t.trade ∷ names) us) ++ t.rows)
        → IsPermutation (rows_of (without names (if b then record u { rows = t.rows } ∷ us else u ∷ put_trade t us))) (rows_of (without (t.trade ∷ names) (u ∷ us)) ++ t.rows)
    by true e none h =
        let same : t.trade ≡ u.trade = same_name-equal t.trade u.trade e in
        put_there (list_any (same_name u.trade) names) (same_name u.trade t.trade) (list_any (same_name u.trade) names) u t.rows (without names us) (without (t.trade ∷ names) us)
        (ap (λ (n : List ℕ). list_any (same_name n) names) (sym same) ∙ new) (same_name-sym u.trade t.trade ∙ e)
        (others_left t.trade names us (ap (λ (n : List ℕ). list_any (same_name n) (names_of us)) same ∙ none))
    by false e none h =
        put_behind (list_any (same_name u.trade) names) (same_name u.trade t.trade) u t.rows (without names (put_trade t us)) (without (t.trade ∷ names) us) (same_name-sym u.trade t.trade ∙ e) h

pub puts_apart : (ts us : List TradeRows) → repeats same_name (names_of ts) ≡ false → repeats same_name (names_of us) ≡ false
    → IsPermutation (rows_of (put_trades ts us)) (rows_of (without (names_of ts) us) ++ rows_of ts)
puts_apart [] us once different = same_as (ap rows_of (sym (without_none us)) ∙ sym (append-nil (rows_of (without [] us))))
puts_apart (t ∷ ts) us once different =
    let parts = or_parts (list_any (same_name t.trade) (names_of ts)) (repeats same_name (names_of ts)) once in
    after (puts_apart ts (put_trade t us) parts.1 (named_puts (t ∷ []) us different))
    (after (on_left (rows_of ts) (put_apart t (names_of ts) us parts.0 different)) (same_as (append_assoc (rows_of (without (t.trade ∷ names_of ts) us)) t.rows (rows_of ts))))

-- ---- the rows that the trades of some names have

first_named : (a s : Bool) (u : TradeRows) (o : Option TradeRows) (ns ms : List TradeRows) → a ≡ false → s ≡ true → ms ≡ ns
    → IsPermutation (rows_or_none (option_map (λ (t : TradeRows). t.rows) (cond true (Some u) o)) ++ rows_of (cond a (u ∷ ns) ns)) (rows_of (cond (s || a) (u ∷ ms) ms))
first_named false true u o ns ms p q e = same_as (ap (λ xs. u.rows ++ rows_of xs) (sym e))
first_named true s u o ns ms p q e = absurd (cc)
first_named false false u o ns ms p q e = absurd (cc)

other_named : (a s : Bool) (u : TradeRows) (rows : List CrifRow) (ns ms : List TradeRows) → s ≡ false → IsPermutation (rows ++ rows_of ns) (rows_of ms)
    → IsPermutation (rows ++ rows_of (cond a (u ∷ ns) ns)) (rows_of (cond (s || a) (u ∷ ms) ms))
other_named false false u rows ns ms e h = h
other_named true false u rows ns ms e h = after (to_front rows u.rows (rows_of ns)) (on_right u.rows h)
other_named a true u rows ns ms e h = absurd (cc)

one_more : (name : List ℕ) (names : List (List ℕ)) (us : List TradeRows) → list_any (same_name name) names ≡ false → repeats same_name (names_of us) ≡ false
    → IsPermutation (rows_in us name ++ rows_of (named names us)) (rows_of (named (name ∷ names) us))
one_more name names [] new once = IsPermutation-refl []
one_more name names (u ∷ us) new once =
    let parts = or_parts (list_any (same_name u.trade) (names_of us)) (repeats same_name (names_of us)) once in
    by (same_name name u.trade) refl parts.0 (one_more name names us new parts.1)
  where
    by : (b : Bool) → same_name name u.trade ≡ b → list_any (same_name u.trade) (names_of us) ≡ false
        → IsPermutation (rows_in us name ++ rows_of (named names us)) (rows_of (named (name ∷ names) us))
        → IsPermutation (rows_or_none (option_map (λ (t : TradeRows). t.rows) (cond b (Some u) (find (λ (t : TradeRows). same_name name t.trade) us))) ++ rows_of (named names (u ∷ us))) (rows_of (named (name ∷ names) (u ∷ us)))
    by true e none h =
        let same : name ≡ u.trade = same_name-equal name u.trade e in
        first_named (list_any (same_name u.trade) names) (same_name u.trade name) u (find (λ (t : TradeRows). same_name name t.trade) us) (named names us) (named (name ∷ names) us)
        (ap (λ (n : List ℕ). list_any (same_name n) names) (sym same) ∙ new) (same_name-sym u.trade name ∙ e)
        (others_named name names us (ap (λ (n : List ℕ). list_any (same_name n) (names_of us)) same ∙ none))
    by false e none h =
        other_named (list_any (same_name u.trade) names) (same_name u.trade name) u (rows_in us name) (named names us) (named (name ∷ names) us) (same_name-sym u.trade name ∙ e) h

-- those of different names are the rows of the trades that are named
pub rows_each-named : (names : List (List ℕ)) (us : List TradeRows) → repeats same_name names ≡ false → repeats same_name (names_of us) ≡ false
    → IsPermutation (flat_map (rows_in us) names) (rows_of (named names us))
rows_each-named [] us once different = same_as (ap rows_of (sym (named_none us)))
rows_each-named (n ∷ ns) us once different =
    let parts = or_parts (list_any (same_name n) ns) (repeats same_name ns) once in
    after (on_right (rows_in us n) (rows_each-named ns us parts.1 different)) (one_more n ns us parts.0 different)

-- ---- a book after a batch

-- the rows of the batch come, and those that it replaces go
pub rows_moved_by : (ts us : List TradeRows) (gone : List CrifRow) → repeats same_name (names_of ts) ≡ false → repeats same_name (names_of us) ≡ false
    → IsPermutation gone (rows_of (named (names_of ts) us)) → IsPermutation (rows_of us ++ rows_of ts) (rows_of (put_trades ts us) ++ gone)
rows_moved_by ts us gone once different same =
    let stay = rows_of (without (names_of ts) us) in
    let its = rows_of (named (names_of ts) us) in
    after (on_left (rows_of ts) (rows_apart (names_of ts) us))
    (after (same_as (append_assoc stay its (rows_of ts)))
    (after (on_right stay (IsPermutation-append_comm its (rows_of ts)))
    (after (same_as (sym (append_assoc stay (rows_of ts) its)))
    (after (on_left its (turned (puts_apart ts us once different))) (on_right (rows_of (put_trades ts us)) (turned same))))))

-- ---- other names that name the same trades

module _ (ns ms : List (List ℕ)) (same : (name : List ℕ) → list_any (same_name name) ns ≡ list_any (same_name name) ms) where
  pub same_without : (us : List TradeRows) → without ns us ≡ without ms us
  same_without [] = refl
  same_without (u ∷ us) = let rest = same_without us in λ i. cond (not (same u.trade i)) (u ∷ rest i) (rest i)

  pub same_named : (us : List TradeRows) → named ns us ≡ named ms us
  same_named [] = refl
  same_named (u ∷ us) = let rest = same_named us in λ i. cond (same u.trade i) (u ∷ rest i) (rest i)
