-- The text of a batch reads back as just this batch.
use Rattle.std.proofs.Common.{◌≡◌, ◌==◌, not, ◌||◌, nat_lt, ℕ, ◌+◌, ◌≤◌, ◌≢◌, Bool, true, false, cond, List, [], ◌∷◌, ◌++◌, length, map, Option, Some, None, Result, Ok, Err, IfOk, OnOk, refl, sym, ap, ◌∙◌, subst, arith, append_assoc, length-append}
use Rattle.std.specs.List.{flat_map, list_any, list_all, AllByRecursion}
use Rattle.std.proofs.lemmas.Bool.{and_parts, ltb-false, ne_eqb, eqb-false, not-false, eqb-true, or_parts}
use Rattle.std.proofs.lemmas.List.{append-nil, map-append, nil_from_length}
use Rattle.std.proofs.lemmas.List.Folds.{list_all-append}
use Rattle.csv.specs.Reading.{strip_bom}
use Rattle.csv.specs.Writing.{escaped, fields_text, is_blank, row_text}
use Rattle.crif_reader.specs.SimmKinds.declared.fault.MakeFault.{MakeFault}
use Rattle.crif_reader.specs.SimmKinds.declared.fault.MakeFault.TheVariants as fault
use Rattle.crif_reader.specs.SimmKinds.declared.row.CrifRow.{CrifRow}
use Rattle.crif_reader.specs.SimmKinds.declared.row.CrifRow.TheVariants as row
use Rattle.crif_reader.specs.SimmKinds.declared.row.TradeRows.{TradeRows}
use Rattle.crif_reader.specs.SimmKinds.Batch.{IsBatch, rows_of, repeats, has_repeats, factor_names, multiplied, is_astray, is_misplaced, is_in_range}
use Rattle.crif_reader.specs.SimmKinds.NameText.{IsName, is_full_name}
use Rattle.crif_reader.specs.SimmKinds.Order.{same_name, same_product}
use Rattle.crif_reader.specs.CrifRecords.Records.{records_of, delimiter_of}
use Rattle.crif_reader.specs.Repeated.{rows_in}
use Rattle.crif_reader.specs.Row.{Entry, row_of}
use Rattle.crif_reader.specs.Trades.{gathered}
use Rattle.crif_reader.specs.Grammar.{at_record, kept_of, none_kept, crif_of, crif_of_records}
use Rattle.crif_reader.specs.Grammar.{rows_of as file_rows_of}
use Rattle.crif_reader.proofs.Onces.{IsOnce}
use Rattle.crif_reader.proofs.Runs.{run_more, taken_some, once_first, kept_at}
use Rattle.crif_writer.specs.Rows.{row_fields, HasRowParts}
use Rattle.crif_writer.specs.Text.{header_fields, trade_records, batch_text, records_text, tab_writer, HasTradeParts}
use Rattle.crif_writer.proofs.FirstOfKind.{first_of_kind}
use Rattle.crif_writer.proofs.Gathers.{entry, trade_entries, entries_of, HasRows, gathered_back}
use Rattle.crif_reader.proofs.All.{all_append}
use Rattle.crif_writer.proofs.RowReads.{IsPlaced, row_reads}
use Rattle.crif_writer.proofs.TabRecords.{records_read, IsLong}
use Rattle.crif_writer.proofs.Texts.{places, header_read}

-- ---- what a batch is

pub record IsWhole (trades : List TradeRows) : Type 0 where
  pub some : (length trades == 0) ≡ false
  pub names : repeats same_name (map (λ t. t.trade) trades) ≡ false
  pub once : IsOnce (rows_of trades)
  pub few : nat_lt 100000 (length (rows_of trades)) ≡ false
  pub place : list_any is_misplaced trades ≡ false
  pub rows : list_any (λ t. length t.rows == 0) trades ≡ false
  pub range : list_all is_in_range (rows_of trades) ≡ true

no_fault : (b : Bool) (f : MakeFault) (rest : Option MakeFault) → cond b (Some f) rest ≡ None → (b ≡ false) × (rest ≡ None)
no_fault true f rest e = cc
no_fault false f rest e = (refl, e)

pub whole : (trades : List TradeRows) → IsBatch trades → IsWhole trades
whole trades h =
    let p1 = no_fault (length trades == 0) fault.Empty _ h in
    let p2 = no_fault (has_repeats trades) fault.Same _ p1.1 in
    let p3 = no_fault (nat_lt 100000 (length (rows_of trades))) fault.TooManyRows _ p2.1 in
    let p4 = no_fault (list_any is_misplaced trades) fault.Place _ p3.1 in
    let p5 = no_fault (list_any (λ t. length t.rows == 0) trades) fault.EmptyTrade _ p4.1 in
    let p6 = no_fault (not (list_all is_in_range (rows_of trades))) fault.Amount None p5.1 in
    let r1 = or_parts (repeats same_name (map (λ t. t.trade) trades) || repeats same_name (flat_map factor_names (rows_of trades))) (repeats same_product (flat_map multiplied (rows_of trades))) p2.0 in
    let r2 = or_parts (repeats same_name (map (λ t. t.trade) trades)) (repeats same_name (flat_map factor_names (rows_of trades))) r1.0 in
    record {
      some = p1.0;
      names = r2.0;
      once = record { factors = r2.1; multipliers = r1.1 };
      few = p3.0;
      place = p4.0;
      rows = p5.0;
      range = not-false _ p6.0;
    }

-- ---- its rows

full : (trade : List ℕ) → IsName trade → (length trade == 0) ≡ false → is_full_name trade ≡ true
full trade name some = rw (some, name) refl

pub placed : (trade : List ℕ) (r : CrifRow) → IsName trade → is_astray trade r ≡ false → IsPlaced trade r
placed trade (row.Sensitivity key amount) name h = full trade name (or_parts (length trade == 0) false h).0
placed trade (row.Notional qualifier amount) name h = full trade name (or_parts (length trade == 0) false h).0
placed trade (row.FixedAmount amount) name h = nil_from_length trade (eqb-true (length trade) 0 (not-false _ h))
placed trade (row.NotionalFactor qualifier factor) name h = nil_from_length trade (eqb-true (length trade) 0 (not-false _ h))
placed trade (row.Multiplier product factor) name h = nil_from_length trade (eqb-true (length trade) 0 (not-false _ h))

abbrev record_of : Entry → List (List ℕ)
record_of e = row_fields e.trade e.row

-- its record gives just that row
abbrev Reads : Entry → Type 0
Reads e = row_of places (record_of e) ≡ Ok (Some e)

rows_read : (trade : List ℕ) → IsName trade → (rows : List CrifRow) → AllByRecursion HasRowParts rows
    → list_any (λ r. is_astray trade r) rows ≡ false → list_all is_in_range rows ≡ true → AllByRecursion Reads (map (entry trade) rows)
rows_read trade name [] parts place range = tt
rows_read trade name (r ∷ rs) parts place range =
    let at = or_parts (is_astray trade r) (list_any (λ r. is_astray trade r) rs) place in
    let within = and_parts (is_in_range r) (list_all is_in_range rs) range in
    (row_reads trade r name (record { parts = parts.0; range = within.0; place = placed trade r name at.0 }), rows_read trade name rs parts.1 at.1 within.1)

trades_read : (trades : List TradeRows) → AllByRecursion HasTradeParts trades → list_any is_misplaced trades ≡ false → list_all is_in_range (rows_of trades) ≡ true
    → AllByRecursion Reads (entries_of trades)
trades_read [] parts place range = tt
trades_read (t ∷ ts) parts place range =
    let at = or_parts (is_misplaced t) (list_any is_misplaced ts) place in
    let within = and_parts (list_all is_in_range t.rows) (list_all is_in_range (rows_of ts)) (sym (list_all-append is_in_range t.rows (rows_of ts)) ∙ range) in
    all_append Reads (trade_entries t) (entries_of ts) (rows_read t.trade parts.0.name t.rows parts.0.rows at.0 within.0) (trades_read ts parts.1 at.1 within.1)

all_have_rows : (trades : List TradeRows) → list_any (λ t. length t.rows == 0) trades ≡ false → AllByRecursion HasRows trades
all_have_rows [] h = tt
all_have_rows (t ∷ ts) h =
    let parts = or_parts (length t.rows == 0) (list_any (λ t. length t.rows == 0) ts) h in
    let some : length t.rows ≢ 0 = eqb-false (length t.rows) 0 parts.0 in
    (omega arith, all_have_rows ts parts.1)

-- ---- the entries of its trades

same_rows : (trade : List ℕ) (rows : List CrifRow) → rows_in (map (entry trade) rows) ≡ rows
same_rows trade [] = refl
same_rows trade (r ∷ rs) = ap (λ (x : List CrifRow). r ∷ x) (same_rows trade rs)

rows_back : (trades : List TradeRows) → rows_in (entries_of trades) ≡ rows_of trades
rows_back [] = refl
rows_back (t ∷ ts) = map-append (λ e. e.row) (trade_entries t) (entries_of ts) ∙ rw (same_rows t.trade t.rows, rows_back ts) refl

same_length : (entries : List Entry) → length (rows_in entries) ≡ length entries
same_length [] = refl
same_length (e ∷ es) = omega (arith, same_length es)

count : (trades : List TradeRows) → length (entries_of trades) ≡ length (rows_of trades)
count trades = sym (same_length (entries_of trades)) ∙ ap length (rows_back trades)

same_records : (trade : List ℕ) (rows : List CrifRow) → map record_of (map (entry trade) rows) ≡ map (row_fields trade) rows
same_records trade [] = refl
same_records trade (r ∷ rs) = ap (λ (x : List (List (List ℕ))). row_fields trade r ∷ x) (same_records trade rs)

records_back : (trades : List TradeRows) → map record_of (entries_of trades) ≡ flat_map trade_records trades
records_back [] = refl
records_back (t ∷ ts) = map-append record_of (trade_entries t) (entries_of ts) ∙ rw (same_records t.trade t.rows, records_back ts) refl

-- ---- the run over its records

kept_all : (before entries : List Entry) (number : ℕ) → AllByRecursion Reads entries → IsOnce (rows_in (before ++ entries)) → number + length entries ≤ 100002
    → kept_of places number (kept_at before 0) (map record_of entries) ≡ Ok (kept_at (before ++ entries) 0)
kept_all before [] number reads once few = ap (λ (x : List Entry). Ok (kept_at x 0)) (sym (append-nil before))
kept_all before (e ∷ es) number reads once few =
    let split = map-append (λ d. d.row) before (e ∷ es) in
    let first = first_of_kind (rows_in before) e.row (rows_in es) (subst IsOnce split once) in
    let taken : at_record number (row_of places (record_of e)) ≡ Ok (Some e) = rw reads.0 refl in
    let early : number ≢ 100002 = omega arith in
    let one = append_assoc before (e ∷ []) es in
    run_more places number (kept_at before 0) (record_of e) (map record_of es) (Some e) (ne_eqb number 100002 early) (sym (taken_some places number before (record_of e) e taken) ∙ once_first number before e first)
    ∙ kept_all (before ++ e ∷ []) es (number + 1) reads.1 (subst (λ (x : List Entry). IsOnce (rows_in x)) (sym one) once) (omega arith)
    ∙ ap (λ (x : List Entry). Ok (kept_at x 0)) one

-- ---- its text

long_row : (trade : List ℕ) (r : CrifRow) → IsLong (row_fields trade r)
long_row trade (row.Sensitivity key amount) = tt
long_row trade (row.Notional qualifier amount) = tt
long_row trade (row.FixedAmount amount) = tt
long_row trade (row.NotionalFactor qualifier factor) = tt
long_row trade (row.Multiplier product factor) = tt

long_records : (entries : List Entry) → AllByRecursion IsLong (map record_of entries)
long_records [] = tt
long_records (e ∷ es) = (long_row e.trade e.row, long_records es)

-- the header begins with no byte order mark, and has tabs
tabbed : (rest : List ℕ) → delimiter_of (row_text tab_writer header_fields ++ rest) ≡ 9
unfolding escaped fields_text is_blank
tabbed rest = refl

unmarked : (rest : List ℕ) → strip_bom (row_text tab_writer header_fields ++ rest) ≡ row_text tab_writer header_fields ++ rest
unfolding escaped fields_text is_blank strip_bom
unmarked rest = refl

records_are : (records : List (List (List ℕ))) → AllByRecursion IsLong records → records_of (records_text (header_fields ∷ records)) ≡ header_fields ∷ records
unfolding records_of records_text
records_are records long =
    let text = row_text tab_writer header_fields ++ records_text records in
    rw (tabbed (records_text records), unmarked (records_text records)) (records_read (header_fields ∷ records) (tt, long) (length text + 1) (omega arith))

columns_then : (records : List (List (List ℕ))) → crif_of_records (header_fields ∷ records) ≡ file_rows_of places records
columns_then records = rw header_read refl

file_rows : (records : List (List (List ℕ))) (entries : List Entry) (trades : List TradeRows) → kept_of places 2 none_kept records ≡ Ok (kept_at entries 0) → length entries ≢ 0 → gathered entries ≡ trades
    → file_rows_of places records ≡ Ok (record { trades = trades; passed_over = 0 })
unfolding file_rows_of
file_rows records entries trades kept some back = rw (kept, ne_eqb (length entries) 0 some, back) refl

some_rows : (trades : List TradeRows) → (length trades == 0) ≡ false → AllByRecursion HasRows trades → length (rows_of trades) ≢ 0
some_rows [] h rows = cc
some_rows (t ∷ ts) h rows = let first = rows.0 in omega (arith, length-append t.rows (rows_of ts))

pub reads_back : (trades : List TradeRows) → IsBatch trades → AllByRecursion HasTradeParts trades → crif_of (batch_text trades) ≡ Ok (record { trades = trades; passed_over = 0 })
unfolding crif_of
reads_back trades batch parts =
    let is = whole trades batch in
    let entries = entries_of trades in
    let records = flat_map trade_records trades in
    let rows = all_have_rows trades is.rows in
    let all = count trades in
    let some = some_rows trades is.some rows in
    let few = ltb-false 100000 (length (rows_of trades)) is.few in
    let once : IsOnce (rows_in entries) = subst IsOnce (sym (rows_back trades)) is.once in
    let kept = kept_all [] entries 2 (trades_read trades parts is.place is.range) once (omega arith) in
    let long = subst (AllByRecursion IsLong) (records_back trades) (long_records entries) in
    ap crif_of_records (records_are records long)
    ∙ columns_then records
    ∙ file_rows records entries trades (ap (kept_of places 2 none_kept) (sym (records_back trades)) ∙ kept) (omega arith) (gathered_back trades rows is.names)

pub text_reads_back : {E : Type 0} (answer : Result (List ℕ) E) (trades : List TradeRows) → IfOk answer (λ text. text ≡ batch_text trades) → IsBatch trades → AllByRecursion HasTradeParts trades
    → IfOk answer (λ text. crif_of text ≡ Ok (record { trades = trades; passed_over = 0 }))
text_reads_back (Ok text) trades e batch parts = ap crif_of e ∙ reads_back trades batch parts
text_reads_back (Err d) trades e batch parts = tt

-- what holds anyway holds where the answer is Ok
pub on_ok : {A E : Type 0} (answer : Result A E) (P : Type 0) → P → OnOk answer P
on_ok (Ok x) P h = h
on_ok (Err e) P h = tt
