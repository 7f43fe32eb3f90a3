-- A run over the records of a file, record by record.
use Rattle.std.proofs.Common.{◌≡◌, ◌≢◌, ◌==◌, ◌∷◌, [], ◌++◌, ℕ, ◌+◌, true, false, List, length, Option, Some, None, Result, Ok, Err, refl, ap, sym, ◌∙◌, arith, eq-eqb, length-append}
use Rattle.std.proofs.lemmas.Bool.{ne_eqb}
use Rattle.std.proofs.lemmas.List.{nil_from_length, map-append}
use Rattle.crif_records.specs.SimmKinds.declared.row.TradeRows.{TradeRows}
use Rattle.crif_reader.specs.declared.columns.Columns.{Columns}
use Rattle.crif_reader.specs.declared.fault.CrifFault.{CrifFault}
use Rattle.crif_reader.specs.declared.fault.CrifFault.TheVariants.{NoHeader, MissingColumn, Row, TooManyRows, EmptyBatch, Memory}
use Rattle.crif_reader.specs.declared.fault.RowFault.{RowFault}
use Rattle.crif_reader.specs.declared.fault.RowFault.TheVariants.{DuplicateParam}
use Rattle.crif_reader.specs.declared.params.Params.{Params}
use Rattle.crif_reader.specs.Noted.{IsNoted}
use Rattle.crif_records.specs.SimmKinds.declared.row.CrifRow.{CrifRow}
use Rattle.crif_records.specs.Binds.{◌>>=◌}
use Rattle.crif_reader.specs.Reads.{Fails}
use Rattle.crif_reader.specs.Row.{Entry, row_of}
use Rattle.crif_reader.specs.Repeated.{is_repeated, once, rows_in}
use Rattle.crif_reader.specs.Trades.{gathered}
use Rattle.crif_reader.specs.Growth.{with_entry}
use Rattle.crif_reader.specs.Grammar.{Kept, none_kept, taken_of, with_taken, at_record, kept_of, batch_of, rows_of}
use Rattle.crif_reader.proofs.Gathered.{gathered-push, gathered_some}

-- a fault ends what follows it
pub fails_bind : {A B : Type 0} (fault : CrifFault) (read : Result A CrifFault) (f : A → Result B CrifFault) → Fails fault read → Fails fault (read >>= f)
fails_bind Memory read f h = tt
fails_bind NoHeader read f h = rw h refl
fails_bind (MissingColumn column) read f h = rw h refl
fails_bind (Row number fault) read f h = rw h refl
fails_bind TooManyRows read f h = rw h refl
fails_bind EmptyBatch read f h = rw h refl

-- one more record that gives what is taken
pub run_more : (columns : Columns) (number : ℕ) (kept : Kept) (fields : List (List ℕ)) (more : List (List (List ℕ))) (taken : Option Entry) → (number == 100002) ≡ false → at_record number (taken_of columns kept.entries fields) ≡ Ok taken
    → kept_of columns number kept (fields ∷ more) ≡ kept_of columns (number + 1) (with_taken kept taken) more
run_more columns number kept fields more taken few e = rw (few, e) refl

-- a record that fails
pub run_fails : (columns : Columns) (number : ℕ) (kept : Kept) (fields : List (List ℕ)) (more : List (List (List ℕ))) (fault : CrifFault) → (number == 100002) ≡ false → Fails fault (at_record number (taken_of columns kept.entries fields))
    → Fails fault (kept_of columns number kept (fields ∷ more))
run_fails columns number kept fields more fault few h = rw few (fails_bind fault (at_record number (taken_of columns kept.entries fields)) _ h)

-- a record too many
pub run_too_many : (columns : Columns) (number : ℕ) (kept : Kept) (fields : List (List ℕ)) (more : List (List (List ℕ))) → (number == 100002) ≡ true → kept_of columns number kept (fields ∷ more) ≡ Err TooManyRows
run_too_many columns number kept fields more many = rw many refl

-- ---- the row's own tests, and the last one

pub taken_fails : (columns : Columns) (number : ℕ) (before : List Entry) (fields : List (List ℕ)) (fault : CrifFault) → Fails fault (at_record number (row_of columns fields)) → Fails fault (at_record number (taken_of columns before fields))
taken_fails columns number before fields fault h = through (row_of columns fields) fault h
  where
    through : (read : Result (Option Entry) RowFault) (f : CrifFault) → Fails f (at_record number read) → Fails f (at_record number (read >>= once before))
    through (Err d) f k = k
    through (Ok o) Memory k = tt
    through (Ok o) NoHeader k = cc
    through (Ok o) (MissingColumn column) k = cc
    through (Ok o) (Row n d) k = cc
    through (Ok o) TooManyRows k = cc
    through (Ok o) EmptyBatch k = cc

read_ok : (number : ℕ) (read : Result (Option Entry) RowFault) (o : Option Entry) → at_record number read ≡ Ok o → read ≡ Ok o
read_ok number (Ok x) o e = cc
read_ok number (Err d) o e = cc

pub taken_none : (columns : Columns) (number : ℕ) (before : List Entry) (fields : List (List ℕ)) → at_record number (row_of columns fields) ≡ Ok None → at_record number (taken_of columns before fields) ≡ Ok None
taken_none columns number before fields e = rw (read_ok number (row_of columns fields) None e) refl

-- what is left to test of a row
pub taken_some : (columns : Columns) (number : ℕ) (before : List Entry) (fields : List (List ℕ)) (entry : Entry) → at_record number (row_of columns fields) ≡ Ok (Some entry) → at_record number (once before (Some entry)) ≡ at_record number (taken_of columns before fields)
taken_some columns number before fields entry e = rw (read_ok number (row_of columns fields) (Some entry) e) refl

pub once_first : (number : ℕ) (before : List Entry) (entry : Entry) → is_repeated (rows_in before) entry.row ≡ false → at_record number (once before (Some entry)) ≡ Ok (Some entry)
once_first number before entry first = rw first refl

pub once_again : (number : ℕ) (before : List Entry) (entry : Entry) → is_repeated (rows_in before) entry.row ≡ true → at_record number (once before (Some entry)) ≡ Err (Row number DuplicateParam)
once_again number before entry again = rw again refl

-- ---- the run

-- The records behind the header as far as they were read: the rows make these trades, what is left ends as all of them do, and
-- their parameters are noted.
pub record IsUnderWay (columns : Columns) (all : List (List (List ℕ))) (number passed_over : ℕ) (params : Params) (made : List TradeRows) (left : List (List (List ℕ))) : Type 0 where
  pub entries : List Entry
  pub trades : made ≡ gathered entries
  pub run : kept_of columns number (record { entries = entries; passed_over = passed_over }) left ≡ kept_of columns 2 none_kept all
  pub count : passed_over + length entries + 2 ≡ number
  pub noted : IsNoted params (rows_in entries)

abbrev pub kept_at : List Entry → ℕ → Kept
kept_at entries passed_over = record { entries = entries; passed_over = passed_over }

pub way_starts : (columns : Columns) (all : List (List (List ℕ))) (params : Params) → IsNoted params [] → IsUnderWay columns all 2 0 params [] all
unfolding gathered
way_starts columns all params noted = record { entries = []; trades = refl; run = refl; count = refl; noted = noted }

-- one more record, which is no record too many: it is passed over
pub way_passes : (columns : Columns) (all : List (List (List ℕ))) (number passed_over : ℕ) (params : Params) (made : List TradeRows) (fields : List (List ℕ)) (more : List (List (List ℕ))) → number ≢ 100002
    → at_record number (row_of columns fields) ≡ Ok None → IsUnderWay columns all number passed_over params made (fields ∷ more) → IsUnderWay columns all (number + 1) (passed_over + 1) params made more
way_passes columns all number passed_over params made fields more few e way =
    record {
      entries = way.entries;
      trades = way.trades;
      run = sym (run_more columns number (kept_at way.entries passed_over) fields more None (ne_eqb number 100002 few) (taken_none columns number way.entries fields e)) ∙ way.run;
      count = omega (arith, way.count);
      noted = way.noted;
    }

-- or it gives a row that repeats no parameter
pub way_takes : (columns : Columns) (all : List (List (List ℕ))) (number passed_over : ℕ) (params new : Params) (made : List TradeRows) (fields : List (List ℕ)) (more : List (List (List ℕ))) (entry : Entry) → number ≢ 100002
    → at_record number (row_of columns fields) ≡ Ok (Some entry)
    → ((before : List Entry) → IsNoted params (rows_in before) → at_record number (once before (Some entry)) ≡ Ok (Some entry)) → ((before : List CrifRow) → IsNoted params before → IsNoted new (before ++ entry.row ∷ []))
    → IsUnderWay columns all number passed_over params made (fields ∷ more) → IsUnderWay columns all (number + 1) passed_over new (with_entry made entry) more
way_takes columns all number passed_over params new made fields more entry few e first noted way =
    record {
      entries = way.entries ++ entry ∷ [];
      trades = rw way.trades (sym (gathered-push way.entries entry));
      run = sym (run_more columns number (kept_at way.entries passed_over) fields more (Some entry) (ne_eqb number 100002 few) (sym (taken_some columns number way.entries fields entry e) ∙ first way.entries way.noted)) ∙ way.run;
      count = omega (arith, way.count, length-append way.entries (entry ∷ []));
      noted = rw (map-append (λ d. d.row) way.entries (entry ∷ [])) (noted (rows_in way.entries) way.noted);
    }

-- a record that fails ends it
way_stops : (columns : Columns) (all : List (List (List ℕ))) (number passed_over : ℕ) (params : Params) (made : List TradeRows) (fields : List (List ℕ)) (more : List (List (List ℕ))) (fault : CrifFault) → number ≢ 100002
    → (way : IsUnderWay columns all number passed_over params made (fields ∷ more)) → Fails fault (at_record number (taken_of columns way.entries fields)) → Fails fault (rows_of columns all)
unfolding rows_of
way_stops columns all number passed_over params made fields more fault few way h =
    fails_bind fault (kept_of columns 2 none_kept all) batch_of (rw way.run at (run_fails columns number (kept_at way.entries passed_over) fields more fault (ne_eqb number 100002 few) h))

pub way_fails : (columns : Columns) (all : List (List (List ℕ))) (number passed_over : ℕ) (params : Params) (made : List TradeRows) (fields : List (List ℕ)) (more : List (List (List ℕ))) (fault : CrifFault) → number ≢ 100002
    → Fails fault (at_record number (row_of columns fields)) → IsUnderWay columns all number passed_over params made (fields ∷ more) → Fails fault (rows_of columns all)
way_fails columns all number passed_over params made fields more fault few h way = way_stops columns all number passed_over params made fields more fault few way (taken_fails columns number way.entries fields fault h)

-- and so does one whose row may not stand behind those before it
pub way_fails_late : (columns : Columns) (all : List (List (List ℕ))) (number passed_over : ℕ) (params : Params) (made : List TradeRows) (fields : List (List ℕ)) (more : List (List (List ℕ))) (entry : Entry) (fault : CrifFault) → number ≢ 100002
    → at_record number (row_of columns fields) ≡ Ok (Some entry) → ((before : List Entry) → IsNoted params (rows_in before) → Fails fault (at_record number (once before (Some entry))))
    → IsUnderWay columns all number passed_over params made (fields ∷ more) → Fails fault (rows_of columns all)
way_fails_late columns all number passed_over params made fields more entry fault few e late way =
    way_stops columns all number passed_over params made fields more fault few way (rw (taken_some columns number way.entries fields entry e) at (late way.entries way.noted))

pub way_too_long : (columns : Columns) (all : List (List (List ℕ))) (number passed_over : ℕ) (params : Params) (made : List TradeRows) (fields : List (List ℕ)) (more : List (List (List ℕ))) → number ≡ 100002
    → IsUnderWay columns all number passed_over params made (fields ∷ more) → rows_of columns all ≡ Err TooManyRows
unfolding rows_of
way_too_long columns all number passed_over params made fields more many way =
    ap (λ read. read >>= batch_of) (sym way.run ∙ run_too_many columns number (kept_at way.entries passed_over) fields more (eq-eqb number 100002 many))

-- all records were read
pub way_ends : (columns : Columns) (all : List (List (List ℕ))) (number passed_over : ℕ) (params : Params) (made : List TradeRows) → length made ≢ 0
    → IsUnderWay columns all number passed_over params made [] → rows_of columns all ≡ Ok (record { trades = made; passed_over = passed_over })
unfolding rows_of gathered
way_ends columns all number passed_over params made some way =
    ap (λ read. read >>= batch_of) (sym way.run) ∙ rw (ne_eqb (length way.entries) 0 (λ none. some (rw (way.trades, nil_from_length way.entries none) refl)), way.trades) refl

pub way_ends_empty : (columns : Columns) (all : List (List (List ℕ))) (number passed_over : ℕ) (params : Params) (made : List TradeRows) → length made ≡ 0
    → IsUnderWay columns all number passed_over params made [] → rows_of columns all ≡ Err EmptyBatch
unfolding rows_of
way_ends_empty columns all number passed_over params made none way =
    ap (λ read. read >>= batch_of) (sym way.run) ∙ rw (eq-eqb (length way.entries) 0 (gathered_some way.entries (rw way.trades at none))) refl

-- a fault that is the grammar's own
pub fails_same : (A : Type 0) (fault : CrifFault) → Fails {Y = A} fault (Err fault)
fails_same A Memory = tt
fails_same A NoHeader = refl
fails_same A (MissingColumn column) = refl
fails_same A (Row number fault) = refl
fails_same A TooManyRows = refl
fails_same A EmptyBatch = refl
