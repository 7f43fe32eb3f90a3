-- What the grammar has is a batch.
use Rattle.std.proofs.Common.{◌≡◌, ◌==◌, ◌∷◌, [], ◌++◌, ℕ, ◌+◌, ◌<◌, ◌≤◌, true, false, ltb, List, length, map, Option, Some, None, inl, inr, ◌≢◌, Result, Ok, Err, refl, sym, ap, subst, ◌∙◌, arith, length-append}
use Rattle.std.specs.List.{list_any, list_all, flat_map, AllByRecursion}
use Rattle.std.proofs.lemmas.Bool.{or_from, ne_eqb, eqb-false, le-ltb}
use Rattle.std.proofs.lemmas.Grind.{flat_map-append}
use Rattle.std.proofs.lemmas.List.{append-nil, map-append, nil_from_length}
use Rattle.std.proofs.lemmas.List.Folds.{list_all-append}
use Rattle.crif_records.specs.SimmKinds.declared.row.CrifRow.{CrifRow}
use Rattle.crif_records.specs.SimmKinds.declared.row.TradeRows.{TradeRows}
use Rattle.crif_records.specs.SimmKinds.Batch.{IsBatch, rows_of, repeats, factor_names, multiplied, is_astray, is_misplaced, is_in_range}
use Rattle.crif_records.specs.SimmKinds.Order.{same_name, same_product}
use Rattle.crif_reader.specs.declared.columns.Columns.{Columns}
use Rattle.crif_reader.specs.declared.fault.CrifFault.TheVariants.{Row, TooManyRows, EmptyBatch}
use Rattle.crif_reader.specs.declared.fault.RowFault.{RowFault}
use Rattle.crif_reader.specs.declared.fault.RowFault.TheVariants.{DuplicateParam}
use Rattle.crif_records.specs.Binds.{◌>>=◌}
use Rattle.crif_reader.specs.Row.{Entry, row_of}
use Rattle.crif_reader.specs.Repeated.{is_repeated, once, rows_in}
use Rattle.crif_reader.specs.Trades.{gathered, trade_names}
use Rattle.crif_reader.specs.Grammar.{Kept, Crif, none_kept, with_taken, at_record, kept_of, taken_of}
use Rattle.crif_reader.specs.Grammar.{rows_of as file_rows_of}
use Rattle.crif_reader.proofs.Gathered.{gathered-push, trade_in, repeats-trade_names}
use Rattle.crif_records.proofs.Binds.{bind_ok, same_ok, same_some, either, mapped_ok}
use Rattle.crif_reader.proofs.Onces.{IsOnce, once_more}
use Rattle.crif_reader.proofs.Placed.{IsGoodRow, IsGoodEntry, IsGoodTrade, IsOfParams, good-with_entry, count-with_entry, parts-with_entry, names_of_params, products_of_params}
use Rattle.crif_reader.proofs.GoodRows.{good_row}

-- ---- the rows so far, and their trades

names_of : (es : List Entry) (ns : List (List ℕ)) → map (λ t. t.trade) (map (trade_in es) ns) ≡ ns
names_of es [] = refl
names_of es (n ∷ ns) = ap (λ (x : List (List ℕ)). n ∷ x) (names_of es ns)

names-gathered : (es : List Entry) → map (λ t. t.trade) (gathered es) ≡ trade_names es
unfolding gathered
names-gathered es = names_of es (trade_names es)

gathered_once : (es : List Entry) → repeats same_name (map (λ t. t.trade) (gathered es)) ≡ false
gathered_once es = rw (names-gathered es) (repeats-trade_names es)

-- their trades are those of a batch, and have the parameters in the order of the file
record IsGood (es : List Entry) : Type 0 where
  trades : AllByRecursion IsGoodTrade (gathered es)
  factors : flat_map factor_names (rows_of (gathered es)) ≡ flat_map factor_names (rows_in es)
  multipliers : flat_map multiplied (rows_of (gathered es)) ≡ flat_map multiplied (rows_in es)
  count : length (rows_of (gathered es)) ≡ length es
  once : IsOnce (rows_in es)

good_start : IsGood []
unfolding gathered
good_start = record { trades = tt; factors = refl; multipliers = refl; count = refl; once = record { factors = refl; multipliers = refl } }

rows_more : (es : List Entry) (e : Entry) → rows_in (es ++ e ∷ []) ≡ rows_in es ++ e.row ∷ []
rows_more es e = map-append (λ d. d.row) es (e ∷ [])

parts_more : {A : Type 0} (part : CrifRow → List A) → IsOfParams part → (es : List Entry) (e : Entry) → IsGood es → IsGoodEntry e → flat_map part (rows_of (gathered es)) ≡ flat_map part (rows_in es)
    → flat_map part (rows_of (gathered (es ++ e ∷ []))) ≡ flat_map part (rows_in (es ++ e ∷ []))
parts_more part of_params es e good k same =
    ap (λ ts. flat_map part (rows_of ts)) (gathered-push es e)
    ∙ parts-with_entry part of_params (gathered es) e good.trades (gathered_once es) k
    ∙ ap (λ x. x ++ part e.row) same
    ∙ ap (λ x. flat_map part (rows_in es) ++ x) (sym (append-nil (part e.row)))
    ∙ sym (flat_map-append part (rows_in es) (e.row ∷ []))
    ∙ ap (flat_map part) (sym (rows_more es e))

good_more : (es : List Entry) (e : Entry) → IsGood es → IsGoodEntry e → is_repeated (rows_in es) e.row ≡ false → IsGood (es ++ e ∷ [])
good_more es e good k first =
    record {
      trades = rw (gathered-push es e) (good-with_entry (gathered es) e good.trades k);
      factors = parts_more factor_names names_of_params es e good k good.factors;
      multipliers = parts_more multiplied products_of_params es e good k good.multipliers;
      count = rw (gathered-push es e) (omega (arith, count-with_entry (gathered es) e, good.count, length-append es (e ∷ [])));
      once = rw (rows_more es e) (once_more (rows_in es) e.row good.once first);
    }

-- ---- the tests of a batch

in_place : (trade : List ℕ) (rs : List CrifRow) → AllByRecursion (IsGoodRow trade) rs → list_any (λ r. is_astray trade r) rs ≡ false
in_place trade [] h = refl
in_place trade (r ∷ rs) h = or_from _ _ h.0.place (in_place trade rs h.1)

none_misplaced : (ts : List TradeRows) → AllByRecursion IsGoodTrade ts → list_any is_misplaced ts ≡ false
none_misplaced [] h = refl
none_misplaced (t ∷ ts) h = or_from _ _ (in_place t.trade t.rows h.0.rows) (none_misplaced ts h.1)

none_empty : (ts : List TradeRows) → AllByRecursion IsGoodTrade ts → list_any (λ t. length t.rows == 0) ts ≡ false
none_empty [] h = refl
none_empty (t ∷ ts) h = or_from _ _ (ne_eqb (length t.rows) 0 (omega (arith, h.0.some))) (none_empty ts h.1)

rows_in_range : (trade : List ℕ) (rs : List CrifRow) → AllByRecursion (IsGoodRow trade) rs → list_all is_in_range rs ≡ true
rows_in_range trade [] h = refl
rows_in_range trade (r ∷ rs) h = rw (h.0.range, rows_in_range trade rs h.1) refl

all_in_range : (ts : List TradeRows) → AllByRecursion IsGoodTrade ts → list_all is_in_range (rows_of ts) ≡ true
all_in_range [] h = refl
all_in_range (t ∷ ts) h = list_all-append is_in_range t.rows (rows_of ts) ∙ rw (rows_in_range t.trade t.rows h.0.rows, all_in_range ts h.1) refl

batch-gathered : (es : List Entry) → IsGood es → 0 < length es → length es ≤ 100000 → IsBatch (gathered es)
batch-gathered es good some few =
    let trades = gathered es in
    let there : (length trades == 0) ≡ false = ne_eqb (length trades) 0 (λ none. let empty = ap (λ ts. length (rows_of ts)) (nil_from_length trades none) in omega (arith, good.count)) in
    let factors : repeats same_name (flat_map factor_names (rows_of trades)) ≡ false = rw good.factors good.once.factors in
    let multipliers : repeats same_product (flat_map multiplied (rows_of trades)) ≡ false = rw good.multipliers good.once.multipliers in
    let fits : ltb 100000 (length (rows_of trades)) ≡ false = le-ltb 100000 (length (rows_of trades)) (omega (arith, good.count)) in
    rw (there, gathered_once es, factors, multipliers, fits, none_misplaced trades good.trades, none_empty trades good.trades, all_in_range trades good.trades) refl

-- ---- the run over a file

-- what passes the last test was read so, and repeats nothing
read_once : (before : List Entry) (read : Result (Option Entry) RowFault) (e : Entry) → (read >>= once before) ≡ Ok (Some e) → (read ≡ Ok (Some e)) × (is_repeated (rows_in before) e.row ≡ false)
read_once before (Err d) e h = cc
read_once before (Ok None) e h = cc
read_once before (Ok (Some entry)) e h =
    elim (either (is_repeated (rows_in before) entry.row) (Err DuplicateParam) (Ok (Some entry)) (Ok (Some e)) h) [
      | inl again ↦ cc (again.1)
      | inr first ↦ (first.1, subst (λ (x : Entry). is_repeated (rows_in before) x.row ≡ false) (same_some entry e (same_ok (Some entry) (Some e) first.1)) first.0)
    ]

good_taken : (kept : Kept) (taken : Option Entry) → IsGood kept.entries → ((e : Entry) → taken ≡ Some e → IsGoodEntry e × (is_repeated (rows_in kept.entries) e.row ≡ false)) → IsGood (with_taken kept taken).entries
good_taken kept None good k = good
good_taken kept (Some e) good k = let new = k e refl in good_more kept.entries e good new.0 new.1

taken_count : (kept : Kept) (taken : Option Entry) → length (with_taken kept taken).entries ≤ length kept.entries + 1
taken_count kept None = omega arith
taken_count kept (Some e) = omega (arith, length-append kept.entries (e ∷ []))

record IsGoodRun (kept : Kept) : Type 0 where
  good : IsGood kept.entries
  few : length kept.entries ≤ 100000

good_run : (columns : Columns) (number : ℕ) (kept : Kept) (records : List (List (List ℕ))) (last : Kept) → kept_of columns number kept records ≡ Ok last → IsGood kept.entries → length kept.entries + 2 ≤ number → number ≤ 100002 → IsGoodRun last
good_run columns number kept [] last e good count few = subst IsGoodRun (same_ok kept last e) (record { good = good; few = omega arith })
good_run columns number kept (fields ∷ more) last e good count few =
    elim (either (number == 100002) (Err TooManyRows) _ (Ok last) e) [
      | inl many ↦ cc (many.1)
      | inr within ↦
          let not_last : number ≢ 100002 = eqb-false number 100002 within.0 in
          bind_ok _ (at_record number (taken_of columns kept.entries fields)) last within.1 (λ taken is_taken e1.
          let read = mapped_ok (λ d. Row number d) (taken_of columns kept.entries fields) taken is_taken in
          let new : (entry : Entry) → taken ≡ Some entry → IsGoodEntry entry × (is_repeated (rows_in kept.entries) entry.row ≡ false) = λ entry t.
          let row = read_once kept.entries (row_of columns fields) entry (read ∙ ap (λ o. Ok o) t) in
          (good_row columns fields entry row.0, row.1) in
          good_run columns (number + 1) (with_taken kept taken) more last e1 (good_taken kept taken good new) (omega (arith, taken_count kept taken)) (omega arith))
    ]

-- the trades of records are a batch
pub batch_of_rows : (columns : Columns) (records : List (List (List ℕ))) (crif : Crif) → file_rows_of columns records ≡ Ok crif → IsBatch crif.trades
unfolding file_rows_of
batch_of_rows columns records crif e =
    bind_ok _ (kept_of columns 2 none_kept records) crif e (λ kept is_kept e1.
    let run = good_run columns 2 none_kept records kept is_kept good_start (omega arith) (omega arith) in
    elim (either (length kept.entries == 0) (Err EmptyBatch) _ (Ok crif) e1) [
      | inl empty ↦ cc (empty.1)
      | inr some ↦ subst (λ (c : Crif). IsBatch c.trades) (same_ok _ crif some.1) (batch-gathered kept.entries run.good (nonempty (length kept.entries) some.0) run.few)
    ])
  where
    nonempty : (n : ℕ) → (n == 0) ≡ false → 0 < n
    nonempty n h = let not_none = eqb-false n 0 h in omega arith
