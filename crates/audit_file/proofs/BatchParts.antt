-- The trades of a CRIF file are a batch, and have the parts that are written.
use Rattle.std.proofs.Common.{◌≡◌, ℕ, ◌+◌, ◌==◌, List, [], ◌∷◌, length, fold, Option, Some, None, Ok, inl, inr, ap, ◌∙◌, subst}
use Rattle.std.specs.List.{AllByRecursion}
use Rattle.std.proofs.lemmas.Bool.{cases_Bool}
use Rattle.feed_events.specs.CrifReader.SimmKinds.declared.row.TradeRows.{TradeRows}
use Rattle.feed_events.specs.CrifReader.SimmKinds.Batch.{IsBatch}
use Rattle.feed_events.specs.CrifReader.SimmKinds.Order.{same_name}
use Rattle.feed_events.specs.CrifReader.CrifRecords.Records.{records_of}
use Rattle.feed_events.specs.CrifReader.declared.columns.Columns.{Columns}
use Rattle.feed_events.specs.CrifReader.declared.fault.CrifFault.TheVariants.{Row, TooManyRows, EmptyBatch}
use Rattle.feed_events.specs.CrifReader.declared.fault.RowFault.TheVariants.{DuplicateParam}
use Rattle.feed_events.specs.CrifReader.Columns.{columns_of}
use Rattle.feed_events.specs.CrifReader.Row.{Entry, row_of}
use Rattle.feed_events.specs.CrifReader.Repeated.{is_repeated, once, rows_in}
use Rattle.feed_events.specs.CrifReader.Trades.{gathered}
use Rattle.feed_events.specs.CrifReader.Growth.{with_entry}
use Rattle.feed_events.specs.CrifReader.Grammar.{Kept, Crif, none_kept, with_taken, at_record, kept_of, taken_of, rows_of, crif_of, crif_of_records}
use Rattle.feed_writer.proofs.CrifReader.All.{all_more}
use Rattle.feed_writer.proofs.CrifReader.Batches.{batch_of_rows}
use Rattle.feed_writer.proofs.CrifReader.CrifRecords.Binds.{bind_ok, same_ok, mapped_ok}
use Rattle.feed_writer.proofs.CrifReader.Gathered.{grown-gathered}
use Rattle.crif_writer.specs.Rows.{HasRowParts}
use Rattle.crif_writer.specs.Text.{HasTradeParts}
use Rattle.audit_file.proofs.Oks.{not_failed}
use Rattle.audit_file.proofs.RowParts.{HasEntryParts, entry_parts}

-- ---- the entries

-- the last test of a row leaves it as it was read
same_once : (before : List Entry) (read taken : Option Entry) → once before read ≡ Ok taken → read ≡ taken
same_once before None taken h = same_ok None taken h
same_once before (Some e) taken h =
    same_ok (Some e) taken (not_failed (is_repeated (rows_in before) e.row) DuplicateParam (Ok (Some e)) taken h)

row_read : (columns : Columns) (before : List Entry) (fields : List (List ℕ)) (taken : Option Entry) → taken_of columns before fields ≡ Ok taken → row_of columns fields ≡ Ok taken
row_read columns before fields taken h = bind_ok (once before) (row_of columns fields) taken h (λ read is_read h1. is_read ∙ ap (λ o. Ok o) (same_once before read taken h1))

parts_taken : (columns : Columns) (fields : List (List ℕ)) (kept : Kept) (taken : Option Entry) → row_of columns fields ≡ Ok taken → AllByRecursion HasEntryParts kept.entries → AllByRecursion HasEntryParts (with_taken kept taken).entries
parts_taken columns fields kept None read parts = parts
parts_taken columns fields kept (Some e) read parts = all_more HasEntryParts kept.entries e parts (entry_parts columns fields e read)

run_parts : (columns : Columns) (number : ℕ) (kept : Kept) (records : List (List (List ℕ))) (last : Kept) → kept_of columns number kept records ≡ Ok last → AllByRecursion HasEntryParts kept.entries → AllByRecursion HasEntryParts last.entries
run_parts columns number kept [] last e parts = subst (λ (k : Kept). AllByRecursion HasEntryParts k.entries) (same_ok kept last e) parts
run_parts columns number kept (fields ∷ more) last e parts =
    bind_ok _ (at_record number (taken_of columns kept.entries fields)) last (not_failed (number == 100002) TooManyRows _ last e) (λ taken is_taken e1.
    let read = row_read columns kept.entries fields taken (mapped_ok (λ d. Row number d) (taken_of columns kept.entries fields) taken is_taken) in
    run_parts columns (number + 1) (with_taken kept taken) more last e1 (parts_taken columns fields kept taken read parts))

-- ---- the trades

parts_with_entry : (trades : List TradeRows) (e : Entry) → AllByRecursion HasTradeParts trades → HasEntryParts e → AllByRecursion HasTradeParts (with_entry trades e)
parts_with_entry [] e parts k = (record { name = k.name; rows = (k.row, tt) }, tt)
parts_with_entry (t ∷ ts) e parts k =
    elim (cases_Bool (same_name e.trade t.trade)) [
      | inl here ↦ rw here (record { name = parts.0.name; rows = all_more HasRowParts t.rows e.row parts.0.rows k.row }, parts.1)
      | inr apart ↦ rw apart (parts.0, parts_with_entry ts e parts.1 k)
    ]

parts_grown : (trades : List TradeRows) (entries : List Entry) → AllByRecursion HasTradeParts trades → AllByRecursion HasEntryParts entries → AllByRecursion HasTradeParts (fold with_entry trades entries)
parts_grown trades [] parts k = parts
parts_grown trades (e ∷ es) parts k = parts_grown (with_entry trades e) es (parts_with_entry trades e parts k.0) k.1

parts_gathered : (entries : List Entry) → AllByRecursion HasEntryParts entries → AllByRecursion HasTradeParts (gathered entries)
parts_gathered entries k = subst (AllByRecursion HasTradeParts) (grown-gathered entries) (parts_grown [] entries tt k)

-- ---- the file

parts_of_rows : (columns : Columns) (records : List (List (List ℕ))) (crif : Crif) → rows_of columns records ≡ Ok crif → AllByRecursion HasTradeParts crif.trades
unfolding rows_of
parts_of_rows columns records crif e =
    bind_ok _ (kept_of columns 2 none_kept records) crif e (λ kept is_kept e1.
    let some = not_failed (length kept.entries == 0) EmptyBatch _ crif e1 in
    subst (λ (c : Crif). AllByRecursion HasTradeParts c.trades) (same_ok _ crif some) (parts_gathered kept.entries (run_parts columns 2 none_kept records kept is_kept tt)))

parts_of_records : (records : List (List (List ℕ))) (crif : Crif) → crif_of_records records ≡ Ok crif → IsBatch crif.trades × AllByRecursion HasTradeParts crif.trades
parts_of_records [] crif e = cc
parts_of_records (header ∷ records) crif e =
    bind_ok _ (columns_of header) crif e (λ columns is_columns e1. (batch_of_rows columns records crif e1, parts_of_rows columns records crif e1))

pub batch_parts : (block : List ℕ) (crif : Crif) → crif_of block ≡ Ok crif → IsBatch crif.trades × AllByRecursion HasTradeParts crif.trades
unfolding crif_of
batch_parts block crif e = parts_of_records (records_of block) crif e
