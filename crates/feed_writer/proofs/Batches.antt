-- The text of a batch is a block: each record is a line that isn't long, and none is the one that ends a block.
use Rattle.std.proofs.Common.{◌≡◌, ℕ, ◌*◌, ◌≤◌, arith, true, false, ◌==◌, nat_le, cond, List, [], ◌∷◌, ◌++◌, length, map, flat_map, codes, inl, inr, refl, sym, ap, ◌∙◌, subst, length-append}
use Rattle.std.specs.List.{AllByRecursion, list_all, list_any}
use Rattle.std.specs.Str.{bytes_eq}
use Rattle.std.proofs.lemmas.Bool.{cases_Bool, and_parts, or_parts, leb-true}
use Rattle.std.proofs.lemmas.List.{length-map}
use Rattle.std.proofs.lemmas.List.Folds.{list_all-append}
use Rattle.std.proofs.lemmas.Slice.Eq.{bytes_eq-Decides}
use Rattle.csv.specs.Writing.{escaped, field_text, fields_text, is_blank, needs_byte, row_body, row_text}
use Rattle.crif_reader.specs.SimmKinds.declared.row.CrifRow.{CrifRow}
use Rattle.crif_reader.specs.SimmKinds.declared.row.TradeRows.{TradeRows}
use Rattle.crif_reader.specs.SimmKinds.Batch.{IsBatch, rows_of, is_astray, is_misplaced, is_in_range}
use Rattle.crif_reader.specs.SimmKinds.NameText.{is_printable, IsName}
use Rattle.feed_reader.specs.Feed.{block_of}
use Rattle.feed_reader.specs.Line.{is_end}
use Rattle.crif_writer.specs.Rows.{row_fields, HasRowParts}
use Rattle.crif_writer.specs.Text.{header_fields, trade_records, batch_records, batch_text, records_text, tab_writer, HasTradeParts}
use Rattle.crif_writer.proofs.Plain.{IsPlain}
use Rattle.crif_writer.proofs.ReadsBack.{whole, placed}
use Rattle.crif_writer.proofs.RowReads.{IsSound, row_texts, row_texts_are, plain_row}
use Rattle.crif_writer.proofs.Texts.{fields_in}
use Rattle.feed_writer.specs.Lines.{IsTextLine}
use Rattle.feed_writer.specs.Messages.{next_field, line_of}
use Rattle.feed_writer.specs.Conditions.{IsBlock}
use Rattle.feed_writer.proofs.LineFields.{IsField, plain_field}
use Rattle.feed_writer.proofs.Blocks.{block_is}
use Rattle.feed_writer.proofs.Reading.{AreShort, short_line}

-- ---- a field in its quotes

escaped_prints : (field : List ℕ) → list_all is_printable field ≡ true → list_all is_printable (escaped tab_writer field) ≡ true
unfolding escaped
escaped_prints [] h = refl
escaped_prints (b ∷ bs) h =
    let both = and_parts (is_printable b) (list_all is_printable bs) h in
    elim (b == 34) as (λ quote. list_all is_printable (cond quote (34 ∷ b ∷ escaped tab_writer bs) (b ∷ escaped tab_writer bs)) ≡ true) [
      | true ↦ rw both.0 (escaped_prints bs both.1)
      | false ↦ rw both.0 (escaped_prints bs both.1)
    ]

escaped_short : (field : List ℕ) → length (escaped tab_writer field) ≤ 2 * length field
unfolding escaped
escaped_short [] = omega arith
escaped_short (b ∷ bs) =
    let more = escaped_short bs in
    elim (b == 34) as (λ quote. length (cond quote (34 ∷ b ∷ escaped tab_writer bs) (b ∷ escaped tab_writer bs)) ≤ 2 * length (b ∷ bs)) [
      | true ↦ omega (arith, more)
      | false ↦ omega (arith, more)
    ]

quoted_field : (field : List ℕ) → IsField 64 field → IsField 130 (34 ∷ (escaped tab_writer field ++ 34 ∷ []))
quoted_field field is =
    let few = is.few in
    record {
      bytes = list_all-append is_printable (escaped tab_writer field) (34 ∷ []) ∙ rw (escaped_prints field is.bytes) refl;
      few = omega (arith, few, escaped_short field, length-append (escaped tab_writer field) (34 ∷ []));
    }

written_field : (field : List ℕ) → IsField 64 field → IsField 130 (field_text tab_writer field)
written_field field is = elim (list_any (needs_byte tab_writer) field) as (λ needs. IsField 130 (cond needs (34 ∷ (escaped tab_writer field ++ 34 ∷ [])) field)) [
  | true ↦ quoted_field field is
  | false ↦ let few = is.few in record { bytes = is.bytes; few = omega (arith, few) }
]

-- ---- a record

abbrev written_fields : List (List ℕ) → List (List ℕ)
written_fields fields = map (field_text tab_writer) fields

further_are : (fields : List (List ℕ)) → fields_text tab_writer fields ≡ flat_map next_field (written_fields fields)
unfolding fields_text
further_are [] = refl
further_are (f ∷ fs) = ap (λ (rest : List ℕ). 9 ∷ (field_text tab_writer f ++ rest)) (further_are fs)

body_is : (field : List ℕ) (fields : List (List ℕ)) → row_body tab_writer (field ∷ fields) ≡ line_of (written_fields (field ∷ fields))
body_is field fields = ap (λ (rest : List ℕ). field_text tab_writer field ++ rest) (further_are fields)

written_are : (fields : List (List ℕ)) → AllByRecursion (IsField 64) fields → AreShort (written_fields fields)
written_are [] are = tt
written_are (f ∷ fs) are = (written_field f are.0, written_are fs are.1)

no_tab_in_end : (xs ys : List ℕ) → is_end (xs ++ 9 ∷ ys) ≡ false
no_tab_in_end xs ys = elim (cases_Bool (bytes_eq (xs ++ 9 ∷ ys) (codes "END"))) [
  | inl same ↦
      let is : xs ++ 9 ∷ ys ≡ codes "END" = (bytes_eq-Decides (xs ++ 9 ∷ ys) (codes "END")).0 same in
      let all : list_all is_printable (xs ++ 9 ∷ ys) ≡ true = ap (list_all is_printable) is in
      let parts = and_parts (list_all is_printable xs) false (sym (list_all-append is_printable xs (9 ∷ ys)) ∙ all) in
      absurd (cc parts.1)
  | inr other ↦ other
]

-- a record of ten short fields is a line of a block
record IsRecordLine (line : List ℕ) : Type 0 where
  is : IsTextLine line
  within : is_end line ≡ false

record_line : (a b : List ℕ) (more : List (List ℕ)) → AllByRecursion (IsField 64) (a ∷ b ∷ more) → length more ≤ 8 → IsRecordLine (row_body tab_writer (a ∷ b ∷ more))
record_line a b more are few =
    let fields = written_fields (b ∷ more) in
    let same = body_is a (b ∷ more) in
    let count : length fields ≤ 9 = omega (arith, few, length-map (b ∷ more) (field_text tab_writer)) in
    rw same (record {
      is = (short_line (field_text tab_writer a) fields (written_are (a ∷ b ∷ more) are) count).is;
      within = no_tab_in_end (field_text tab_writer a) (line_of fields);
    })

record_text : (a b : List ℕ) (more : List (List ℕ)) (rest : List ℕ) → row_text tab_writer (a ∷ b ∷ more) ++ rest ≡ (row_body tab_writer (a ∷ b ∷ more) ++ 10 ∷ []) ++ rest
unfolding is_blank
record_text a b more rest = refl

-- ---- the records of a batch

-- two fields or more, of short texts that print
record IsRecord (fields : List (List ℕ)) : Type 0 where
  line : IsRecordLine (row_body tab_writer fields)
  text : (rest : List ℕ) → row_text tab_writer fields ++ rest ≡ (row_body tab_writer fields ++ 10 ∷ []) ++ rest

record_is : (a b : List ℕ) (more : List (List ℕ)) → AllByRecursion (IsField 64) (a ∷ b ∷ more) → length more ≤ 8 → IsRecord (a ∷ b ∷ more)
record_is a b more are few = record { line = record_line a b more are few; text = record_text a b more }

abbrev record_lines : List (List (List ℕ)) → List (List ℕ)
record_lines records = map (row_body tab_writer) records

records_are : (records : List (List (List ℕ))) → AllByRecursion IsRecord records → records_text records ≡ block_of (record_lines records)
unfolding records_text
records_are [] are = refl
records_are (r ∷ rs) are = are.0.text (records_text rs) ∙ ap (λ (rest : List ℕ). (row_body tab_writer r ++ 10 ∷ []) ++ rest) (records_are rs are.1)

lines_are : (records : List (List (List ℕ))) → AllByRecursion IsRecord records → AllByRecursion IsTextLine (record_lines records)
lines_are [] are = tt
lines_are (r ∷ rs) are = (are.0.line.is, lines_are rs are.1)

lines_within : (records : List (List (List ℕ))) → AllByRecursion IsRecord records → AllByRecursion (λ line. is_end line ≡ false) (record_lines records)
lines_within [] are = tt
lines_within (r ∷ rs) are = (are.0.line.within, lines_within rs are.1)

-- ---- the header and the rows

word : (field : List ℕ) → list_all is_printable field ≡ true → nat_le (length field) 64 ≡ true → IsField 64 field
word field bytes few = record { bytes = bytes; few = leb-true (length field) 64 few }

header_is : IsRecord header_fields
header_is =
    record_is _ _ _
    (word _ refl refl, (word _ refl refl, (word _ refl refl, (word _ refl refl, (word _ refl refl, (word _ refl refl, (word _ refl refl, (word _ refl refl, (word _ refl refl, (word _ refl refl, tt))))))))))
    (omega arith)

plain_fields : (fields : List (List ℕ)) → AllByRecursion IsPlain fields → AllByRecursion (IsField 64) fields
plain_fields [] are = tt
plain_fields (f ∷ fs) are = (plain_field f are.0, plain_fields fs are.1)

row_is : (trade : List ℕ) (r : CrifRow) → IsName trade → IsSound trade r → IsRecord (row_fields trade r)
row_is trade r name sound =
    let plain = plain_row trade r name sound in
    subst IsRecord (row_texts_are trade r) (record_is _ _ _ (plain_fields (fields_in (row_texts trade r)) plain.fields) (omega arith))

rows_are : (trade : List ℕ) → IsName trade → (rows : List CrifRow) → AllByRecursion HasRowParts rows → list_any (λ r. is_astray trade r) rows ≡ false → list_all is_in_range rows ≡ true → AllByRecursion IsRecord (map (row_fields trade) rows)
rows_are trade name [] parts place range = tt
rows_are trade name (r ∷ rs) parts place range =
    let at = or_parts (is_astray trade r) (list_any (λ r. is_astray trade r) rs) place in
    let within = and_parts (is_in_range r) (list_all is_in_range rs) range in
    (row_is trade r name (record { parts = parts.0; range = within.0; place = placed trade r name at.0 }), rows_are trade name rs parts.1 at.1 within.1)

both_all : (xs ys : List (List (List ℕ))) → AllByRecursion IsRecord xs → AllByRecursion IsRecord ys → AllByRecursion IsRecord (xs ++ ys)
both_all [] ys first second = second
both_all (x ∷ xs) ys first second = (first.0, both_all xs ys first.1 second)

trades_are : (trades : List TradeRows) → AllByRecursion HasTradeParts trades → list_any is_misplaced trades ≡ false → list_all is_in_range (rows_of trades) ≡ true → AllByRecursion IsRecord (flat_map trade_records trades)
trades_are [] parts place range = tt
trades_are (t ∷ ts) parts place range =
    let at = or_parts (is_misplaced t) (list_any is_misplaced ts) place in
    let within = and_parts (list_all is_in_range t.rows) (list_all is_in_range (rows_of ts)) (sym (list_all-append is_in_range t.rows (rows_of ts)) ∙ range) in
    both_all (trade_records t) (flat_map trade_records ts) (rows_are t.trade parts.0.name t.rows parts.0.rows at.0 within.0) (trades_are ts parts.1 at.1 within.1)

pub batch_block : (trades : List TradeRows) → IsBatch trades → AllByRecursion HasTradeParts trades → IsBlock (batch_text trades)
batch_block trades batch parts =
    let is = whole trades batch in
    let records = batch_records trades in
    let are : AllByRecursion IsRecord records = (header_is, trades_are trades parts is.place is.range) in
    subst IsBlock (sym (records_are records are)) (block_is (record_lines records) (lines_are records are) (lines_within records are))
