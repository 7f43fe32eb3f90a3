-- What putting trades makes of a book: its names, and what holds of each trade.
use Rattle.std.proofs.Common.{◌≡◌, ℕ, List, [], ◌∷◌, ◌++◌, Bool, true, false, ◌&&◌, ◌||◌, ◌==◌, if◌then◌else◌, refl, sym, ap, ◌∙◌, append-nil}
use Rattle.std.specs.List.{list_all, list_any}
use Rattle.std.specs.Cmp.Lexicographic.{pointwise}
use Rattle.std.proofs.lemmas.Bool.{or_parts, or_from, and_parts, and_from}
use Rattle.std.proofs.lemmas.List.Folds.{list_any-append, list_all-append}
use Rattle.indexmap.specs.IndexMap.{insert_entry}
use Rattle.book_margin.specs.SimmKinds.declared.row.CrifRow.{CrifRow}
use Rattle.book_margin.specs.SimmKinds.declared.row.TradeRows.{TradeRows}
use Rattle.book_margin.specs.SimmKinds.Batch.{rows_of}
use Rattle.book_margin.specs.SimmKinds.Order.{same_name}
use Rattle.book_margin.specs.SimmKinds.Repeats.{repeats}
use Rattle.bucket_cache.specs.Live.{put_trade, put_trades}
use Rattle.bucket_cache.specs.Entries.{trade_of, trades_of, names_of}
use Rattle.bucket_cache.proofs.Maps.{key_test, same_name-equal, same_name-sym}

-- ---- names

-- the names stay, and this one may come last
record Added (name : List ℕ) (old new : List TradeRows) : Type 0 where
  pub added : List (List ℕ)
  pub order : names_of new ≡ names_of old ++ added
  pub others : (q : List ℕ) → same_name q name ≡ false → list_any (same_name q) added ≡ false

added_head : (b : Bool) (t u : TradeRows) (us rest : List TradeRows) → Added t.trade us rest → Added t.trade (u ∷ us) (if b then record u { rows = t.rows } ∷ us else u ∷ rest)
added_head true t u us rest h = record { added = []; order = sym (append-nil (u.trade ∷ names_of us)); others = λ q g. refl }
added_head false t u us rest h = record { added = h.added; order = ap (λ ns. u.trade ∷ ns) h.order; others = h.others }

added_put : (t : TradeRows) (us : List TradeRows) → Added t.trade us (put_trade t us)
added_put t [] = record { added = t.trade ∷ []; order = refl; others = λ q g. ap (λ b. b || false) g }
added_put t (u ∷ us) = added_head (same_name t.trade u.trade) t u us (put_trade t us) (added_put t us)

-- names stay different
named_head : (b : Bool) (t u : TradeRows) (us rest : List TradeRows) → list_any (same_name u.trade) (names_of us) ≡ false → repeats same_name (names_of us) ≡ false → (b ≡ false → list_any (same_name u.trade) (names_of rest) ≡ false) → repeats same_name (names_of rest) ≡ false → repeats same_name (names_of (if b then record u { rows = t.rows } ∷ us else u ∷ rest)) ≡ false
named_head true t u us rest none once more after = or_from (list_any (same_name u.trade) (names_of us)) (repeats same_name (names_of us)) none once
named_head false t u us rest none once more after = or_from (list_any (same_name u.trade) (names_of rest)) (repeats same_name (names_of rest)) (more refl) after

named_put : (t : TradeRows) (us : List TradeRows) → repeats same_name (names_of us) ≡ false → repeats same_name (names_of (put_trade t us)) ≡ false
named_put t [] h = refl
named_put t (u ∷ us) h =
    let parts = or_parts (list_any (same_name u.trade) (names_of us)) (repeats same_name (names_of us)) h in
    let put = added_put t us in
    named_head (same_name t.trade u.trade) t u us (put_trade t us) parts.0 parts.1
    (λ other. ap (list_any (same_name u.trade)) put.order ∙ list_any-append (same_name u.trade) (names_of us) put.added
    ∙ or_from (list_any (same_name u.trade) (names_of us)) (list_any (same_name u.trade) put.added) parts.0 (put.others u.trade (same_name-sym u.trade t.trade ∙ other)))
    (named_put t us parts.1)

pub named_puts : (ts us : List TradeRows) → repeats same_name (names_of us) ≡ false → repeats same_name (names_of (put_trades ts us)) ≡ false
named_puts [] us h = h
named_puts (t ∷ ts) us h = named_puts ts (put_trade t us) (named_put t us h)

-- ---- the map

put_entry : (s b : Bool) (e : List ℕ × List CrifRow) (rows : List CrifRow) (es put : List (List ℕ × List CrifRow)) (rest : List TradeRows) → s ≡ b → trades_of put ≡ rest → trades_of (if s then (e.0, rows) ∷ es else e ∷ put) ≡ (if b then record (trade_of e) { rows = rows } ∷ trades_of es else trade_of e ∷ rest)
put_entry true true e rows es put rest same h = refl
put_entry false false e rows es put rest same h = ap (λ xs. trade_of e ∷ xs) h
put_entry true false e rows es put rest same h = absurd (cc)
put_entry false true e rows es put rest same h = absurd (cc)

pub trades_of-insert_entry : (name : List ℕ) (rows : List CrifRow) (es : List (List ℕ × List CrifRow)) → trades_of (insert_entry (pointwise ◌==◌) es name rows) ≡ put_trade (record { trade = name; rows = rows }) (trades_of es)
trades_of-insert_entry name rows [] = refl
trades_of-insert_entry name rows (e ∷ es) =
    put_entry (pointwise ◌==◌ name e.0) (same_name name e.0) e rows es (insert_entry (pointwise ◌==◌) es name rows) (put_trade (record { trade = name; rows = rows }) (trades_of es)) (key_test name e.0) (trades_of-insert_entry name rows es)

-- ---- what holds of each trade

-- a trade's rows under the name of another, which is its own
renamed : (test : TradeRows → Bool) (t u : TradeRows) → test t ≡ true → same_name t.trade u.trade ≡ true → test (record u { rows = t.rows }) ≡ true
renamed test t u a same = ap (λ name. test (record { trade = name; rows = t.rows })) (sym (same_name-equal t.trade u.trade same)) ∙ a

all_head : (test : TradeRows → Bool) (b : Bool) (t u : TradeRows) (us rest : List TradeRows) → (b ≡ true → test (record u { rows = t.rows }) ≡ true) → test u ≡ true → list_all test us ≡ true → list_all test rest ≡ true → list_all test (if b then record u { rows = t.rows } ∷ us else u ∷ rest) ≡ true
all_head test true t u us rest a c d e = and_from (test (record u { rows = t.rows })) (list_all test us) (a refl) d
all_head test false t u us rest a c d e = and_from (test u) (list_all test rest) c e

all_put : (test : TradeRows → Bool) (t : TradeRows) (us : List TradeRows) → test t ≡ true → list_all test us ≡ true → list_all test (put_trade t us) ≡ true
all_put test t [] a h = and_from (test t) true a refl
all_put test t (u ∷ us) a h =
    let parts = and_parts (test u) (list_all test us) h in
    all_head test (same_name t.trade u.trade) t u us (put_trade t us) (renamed test t u a) parts.0 parts.1 (all_put test t us a parts.1)

pub all_puts : (test : TradeRows → Bool) (ts us : List TradeRows) → list_all test ts ≡ true → list_all test us ≡ true → list_all test (put_trades ts us) ≡ true
all_puts test [] us a h = h
all_puts test (t ∷ ts) us a h =
    let parts = and_parts (test t) (list_all test ts) a in
    all_puts test ts (put_trade t us) parts.1 (all_put test t us parts.0 h)

pub all_rows_of : (test : CrifRow → Bool) (ts : List TradeRows) → list_all test (rows_of ts) ≡ list_all (λ (t : TradeRows). list_all test t.rows) ts
all_rows_of test [] = refl
all_rows_of test (t ∷ ts) = list_all-append test t.rows (rows_of ts) ∙ ap (λ b. list_all test t.rows && b) (all_rows_of test ts)
