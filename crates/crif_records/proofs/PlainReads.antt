-- Bytes without quotes that are cut in place give the records that csv reads.
use Rattle.std.proofs.Common.{◌≡◌, ◌==◌, ◌||◌, ◌∷◌, ◌++◌, [], ℕ, suc, zero, ◌+◌, Bool, true, false, cond, List, length, take, drop, get_or, ◌-◌, ◌≤◌, ◌<◌, arith, subst, Option, Some, refl, sym, ap, ◌∙◌, append_assoc, inl, inr}
use Rattle.std.proofs.lemmas.List.{append-nil, take_all}
use Rattle.std.proofs.lemmas.Bool.{cases_Bool, eqb-true}
use Rattle.std.specs.List.{position_or_len}
use Rattle.csv.specs.Machine.{Read, after_end, ends_at_end, line_feed, next_record}
use Rattle.csv.specs.Reading.{records, records_from, records_next}
use Rattle.csv.specs.declared.parser.State.{State}
use Rattle.csv.specs.declared.parser.State.TheVariants as st
use Rattle.csv.specs.declared.parser.Terminator.TheVariants as term
use Rattle.crif_records.specs.Plain.{ends_field, without_leading_line_ends, has_quote, is_line_end, plain_fields, read_further, TakesField}
use Rattle.crif_records.specs.Records.{csv_by}
use Rattle.crif_records.specs.declared.plain.PlainRecords.{PlainRecords}
use Rattle.crif_records.proofs.RecordsLeft.{takes_first, none_left}

-- ---- no byte is a quote

or-left : (a b : Bool) → (a || b) ≡ false → a ≡ false
or-left true b e = e
or-left false b e = refl

or-right : (a b : Bool) → (a || b) ≡ false → b ≡ false
or-right true b e = absurd (cc e)
or-right false b e = e

pub quoteless_drop : (n : ℕ) (bytes : List ℕ) → has_quote bytes ≡ false → has_quote (drop n bytes) ≡ false
quoteless_drop zero bytes e = e
quoteless_drop (suc n) [] e = e
quoteless_drop (suc n) (b ∷ bs) e = quoteless_drop n bs (or-right (b == 34) _ e)

pub quoteless_record : (bytes : List ℕ) → has_quote bytes ≡ false → has_quote (without_leading_line_ends bytes) ≡ false
quoteless_record [] e = e
quoteless_record (b ∷ bs) e = elim (cases_Bool (is_line_end b)) [
  | inl ends ↦ rw ends (quoteless_record bs (or-right (b == 34) _ e))
  | inr inside ↦ rw inside e
]

-- ---- the machine over such bytes

-- a field starts as it reads on
starts_same : (delimiter : ℕ) (fields : List (List ℕ)) (field bytes : List ℕ) → has_quote bytes ≡ false
    → next_record (csv_by delimiter) st.StartField fields field bytes ≡ next_record (csv_by delimiter) st.InField fields field bytes
unfolding next_record
starts_same delimiter fields field [] e = refl
starts_same delimiter fields field (b ∷ bs) e = rw (or-left (b == 34) _ e) refl

-- behind a field
after_field : ℕ → List (List ℕ) → List ℕ → List ℕ → Option Read
after_field delimiter fields field [] = Some (fields ++ field ∷ [], st.StartRecord, [])
after_field delimiter fields field (b ∷ bs) =
    cond (b == delimiter) (next_record (csv_by delimiter) st.InField (fields ++ field ∷ []) [] bs) (Some (fields ++ field ∷ [], after_end term.CRLF b, bs))

read_inside : (delimiter : ℕ) (fields : List (List ℕ)) (field : List ℕ) (b : ℕ) (bs : List ℕ) → (b == delimiter) ≡ false → is_line_end b ≡ false
    → next_record (csv_by delimiter) st.InField fields field (b ∷ bs) ≡ next_record (csv_by delimiter) st.InField fields (field ++ b ∷ []) bs
unfolding next_record
read_inside delimiter fields field b bs other inside = rw (other, inside) refl

position_inside : (delimiter b : ℕ) (bs : List ℕ) → (b == delimiter) ≡ false → is_line_end b ≡ false
    → position_or_len (ends_field delimiter) (b ∷ bs) ≡ suc (position_or_len (ends_field delimiter) bs)
position_inside delimiter b bs other inside = rw (other, inside) (omega arith)

field_cut : (delimiter : ℕ) (fields : List (List ℕ)) (field bytes : List ℕ) → has_quote bytes ≡ false
    → next_record (csv_by delimiter) st.InField fields field bytes
    ≡ after_field delimiter fields (field ++ take (position_or_len (ends_field delimiter) bytes) bytes) (drop (position_or_len (ends_field delimiter) bytes) bytes)
unfolding next_record after_field
field_cut delimiter fields field [] e = rw (append-nil field) refl
field_cut delimiter fields field (b ∷ bs) e = elim (cases_Bool (b == delimiter)) [
  | inl parts ↦ rw (parts, append-nil field, parts) (starts_same delimiter (fields ++ field ∷ []) [] bs (or-right (b == 34) _ e))
  | inr other ↦ elim (cases_Bool (is_line_end b)) [
    | inl ends ↦ rw (other, ends, append-nil field, other) refl
    | inr inside ↦
        let n : ℕ = position_or_len (ends_field delimiter) bs in
        read_inside delimiter fields field b bs other inside
        ∙ field_cut delimiter fields (field ++ b ∷ []) bs (or-right (b == 34) _ e)
        ∙ ap (λ (f : List ℕ). after_field delimiter fields f (drop n bs)) (append_assoc field (b ∷ []) (take n bs))
        ∙ ap (λ (k : ℕ). after_field delimiter fields (field ++ take k (b ∷ bs)) (drop k (b ∷ bs))) (sym (position_inside delimiter b bs other inside))
  ]
]

-- ---- a field is taken

-- it is the last of its record where nothing stands behind it
pub last_field : (delimiter : ℕ) (fields : List (List ℕ)) (bytes field rest : List ℕ) (n : ℕ) → has_quote bytes ≡ false
    → n ≡ position_or_len (ends_field delimiter) bytes → field ≡ take n bytes → rest ≡ drop n bytes → length rest < 1
    → next_record (csv_by delimiter) st.InField fields [] bytes ≡ Some (fields ++ field ∷ [], st.StartRecord, rest)
unfolding after_field
last_field delimiter fields bytes field [] n e place front back none = field_cut delimiter fields [] bytes e ∙ rw (← place, ← front, ← back) refl
last_field delimiter fields bytes field (b ∷ bs) n e place front back none = absurd (omega arith)

pub first_and_rest : (bytes : List ℕ) → 1 ≤ length bytes → get_or bytes 0 0 ∷ take (length bytes - 1) (drop 1 bytes) ≡ bytes
first_and_rest [] some = absurd (omega arith)
first_and_rest (b ∷ bs) some = ap (λ (rest : List ℕ). b ∷ rest) (take_all (length (b ∷ bs) - 1) bs (omega arith))

-- else the byte behind it tells whether another follows
pub field_before : (old new : PlainRecords) (field : List ℕ) (b n : ℕ) → has_quote old.rest.now ≡ false
    → n ≡ position_or_len (ends_field old.delimiter) old.rest.now → field ≡ take n old.rest.now → b ∷ new.rest.now ≡ drop n old.rest.now
    → plain_fields new ≡ plain_fields old ++ field ∷ [] → new.delimiter ≡ old.delimiter
    → TakesField (b == old.delimiter) old new
unfolding after_field
field_before old new field b n e place front back all same =
    by (b == old.delimiter) refl
  where
    cut : read_further old ≡ after_field old.delimiter (plain_fields old) field (b ∷ new.rest.now)
    cut = field_cut old.delimiter (plain_fields old) [] old.rest.now e ∙ rw (← place, ← front, ← back) refl

    by : (more : Bool) → (b == old.delimiter) ≡ more → TakesField more old new
    by true parts = cut ∙ rw (parts, same, all) refl
    by false other = (after_end term.CRLF b, cut ∙ rw (other, all) refl)

-- ---- a record begins

record_here : (b : ℕ) (bs : List ℕ) → is_line_end b ≡ false → without_leading_line_ends (b ∷ bs) ≡ b ∷ bs
record_here b bs inside = rw inside refl

-- line ends before a record are passed over
ends_skipped : (delimiter : ℕ) (bytes : List ℕ)
    → next_record (csv_by delimiter) st.StartRecord [] [] bytes ≡ next_record (csv_by delimiter) st.StartRecord [] [] (without_leading_line_ends bytes)
unfolding next_record
ends_skipped delimiter [] = refl
ends_skipped delimiter (b ∷ bs) = elim (cases_Bool (is_line_end b)) [
  | inl ends ↦ rw ends (ends_skipped delimiter bs)
  | inr inside ↦ ap (next_record (csv_by delimiter) st.StartRecord [] []) (sym (record_here b bs inside))
]

-- a record's first byte is read as one in a field
begins_same : (delimiter b : ℕ) (bs : List ℕ) → is_line_end b ≡ false → has_quote (b ∷ bs) ≡ false
    → next_record (csv_by delimiter) st.StartRecord [] [] (b ∷ bs) ≡ next_record (csv_by delimiter) st.InField [] [] (b ∷ bs)
unfolding next_record
begins_same delimiter b bs inside e = rw (inside, or-left (b == 34) _ e) refl

-- where there is a record at all, csv reads it from its first field on
pub record_begins : (delimiter : ℕ) (bytes : List ℕ) → has_quote bytes ≡ false → (length (without_leading_line_ends bytes) == 0) ≡ false
    → next_record (csv_by delimiter) st.StartRecord [] [] bytes ≡ next_record (csv_by delimiter) st.InField [] [] (without_leading_line_ends bytes)
record_begins delimiter [] e some = absurd (cc some)
record_begins delimiter (b ∷ bs) e some = elim (cases_Bool (is_line_end b)) [
  | inl ends ↦ ends_skipped delimiter (b ∷ bs) ∙ rw ends (sym (ends_skipped delimiter bs) ∙ record_begins delimiter bs (or-right (b == 34) _ e) (rw ends at some))
  | inr inside ↦ begins_same delimiter b bs inside e ∙ ap (next_record (csv_by delimiter) st.InField [] []) (sym (record_here b bs inside))
]

pub no_record : (delimiter : ℕ) (bytes : List ℕ) → (length (without_leading_line_ends bytes) == 0) ≡ true → records (csv_by delimiter) bytes ≡ []
unfolding next_record
no_record delimiter bytes none =
    none_left (csv_by delimiter) st.StartRecord bytes (ends_skipped delimiter bytes ∙ ap (next_record (csv_by delimiter) st.StartRecord [] []) (nothing (without_leading_line_ends bytes) none))
  where
    nothing : (bs : List ℕ) → (length bs == 0) ≡ true → bs ≡ []
    nothing [] e = refl
    nothing (b ∷ bs) e = let none = eqb-true (length (b ∷ bs)) 0 e in absurd (omega arith)

-- ---- between two records, also behind a CR, csv reads on as from the start

after_cr : (delimiter : ℕ) (bytes : List ℕ)
    → next_record (csv_by delimiter) st.AfterCr [] [] bytes ≡ next_record (csv_by delimiter) st.StartRecord [] [] bytes
unfolding next_record
after_cr delimiter [] = refl
after_cr delimiter (b ∷ bs) = elim (cases_Bool (b == line_feed)) [
  | inl feed ↦
      subst (λ (c : ℕ). next_record (csv_by delimiter) st.AfterCr [] [] (c ∷ bs) ≡ next_record (csv_by delimiter) st.StartRecord [] [] (c ∷ bs)) (sym (eqb-true b line_feed feed)) refl
  | inr other ↦ rw other refl
]

reads_on : (delimiter : ℕ) (s : State) (bytes : List ℕ) → ends_at_end s ≡ false
    → next_record (csv_by delimiter) s [] [] bytes ≡ next_record (csv_by delimiter) st.StartRecord [] [] bytes
reads_on delimiter st.StartRecord bytes h = refl
reads_on delimiter st.AfterCr bytes h = after_cr delimiter bytes
reads_on delimiter st.StartField bytes h = absurd (cc h)
reads_on delimiter st.InField bytes h = absurd (cc h)
reads_on delimiter st.InQuoted bytes h = absurd (cc h)
reads_on delimiter st.AfterQuote bytes h = absurd (cc h)
reads_on delimiter st.InEscape bytes h = absurd (cc h)
reads_on delimiter st.InComment bytes h = absurd (cc h)

records_on : (delimiter n : ℕ) (s : State) (bytes : List ℕ) → ends_at_end s ≡ false
    → records_from (csv_by delimiter) n s bytes ≡ records_from (csv_by delimiter) n st.StartRecord bytes
unfolding records_from
records_on delimiter zero s bytes h = refl
records_on delimiter (suc n) s bytes h = ap (records_next (records_from (csv_by delimiter) n)) (reads_on delimiter s bytes h)

-- the record that csv reads is the first of those that are left
pub record_taken : (delimiter : ℕ) (bytes : List ℕ) (fields : List (List ℕ)) (s : State) (rest : List ℕ)
    → next_record (csv_by delimiter) st.StartRecord [] [] bytes ≡ Some (fields, s, rest)
    → records (csv_by delimiter) bytes ≡ fields ∷ records (csv_by delimiter) rest
record_taken delimiter bytes fields s rest e =
    let first = takes_first (csv_by delimiter) st.StartRecord bytes fields (fields, s, rest) refl e refl in
    first.records ∙ ap (λ (rs : List (List (List ℕ))). fields ∷ rs) (records_on delimiter (length rest + 1) s rest first.between)
