-- What a writer with tabs writes, a reader with tabs reads: the records one after another.
use Rattle.std.specs.Prelude.{length}
use Rattle.std.proofs.Common.{◌≡◌, ◌==◌, ◌++◌, ◌∷◌, ◌∙◌, [], ℕ, ◌<◌, List, Some, refl, sym, ap, subst, false, append_assoc, inl, inr, zero, suc, arith, length-append}
use Rattle.std.specs.List.{list_any, AllByRecursion}
use Rattle.std.proofs.lemmas.List.{append-nil}
use Rattle.std.proofs.lemmas.Bool.{cases_Bool, eqb-true, false_from_ne_true, or_parts}
use Rattle.csv.specs.Machine.{next_record}
use Rattle.csv.specs.Reading.{records_from}
use Rattle.csv.specs.Writing.{escaped, field_text, fields_text, is_blank, needs_byte, row_body, row_text}
use Rattle.csv.specs.declared.parser.Config.{Config}
use Rattle.csv.specs.declared.parser.State.TheVariants as st
use Rattle.crif_reader.specs.CrifRecords.Records.{csv_by}
use Rattle.crif_writer.specs.Text.{tab_writer, records_text}

abbrev pub tab_reader : Config
tab_reader = csv_by 9

-- ---- a field

-- a byte that calls for no quotes marks neither the end of a field nor that of a record, and is no quote
plain-byte : (b : ℕ) → needs_byte tab_writer b ≡ false → ((b == 9) ≡ false) × ((b == 34) ≡ false) × ((b == 13) ≡ false) × ((b == 10) ≡ false)
plain-byte b e =
    let a = false_from_ne_true (b == 9) (λ t. cc (rw t at e)) in
    let q = false_from_ne_true (b == 34) (λ t. cc (rw (a, t) at e)) in
    let r = false_from_ne_true (b == 13) (λ t. cc (rw (a, q, t) at e)) in
    let n = false_from_ne_true (b == 10) (λ t. cc (rw (a, q, r, t) at e)) in
    (a, q, r, n)

plain-run : (fields : List (List ℕ)) (field x tail : List ℕ) → list_any (needs_byte tab_writer) x ≡ false
    → next_record tab_reader st.InField fields field (x ++ tail) ≡ next_record tab_reader st.InField fields (field ++ x) tail
unfolding next_record
plain-run fields field [] tail e = rw (append-nil field) refl
plain-run fields field (b ∷ rest) tail e =
    let q = plain-byte b (or_parts (needs_byte tab_writer b) (list_any (needs_byte tab_writer) rest) e).0 in
    rw (q.0, q.2, q.3) (plain-run fields (field ++ (b ∷ [])) rest tail (or_parts (needs_byte tab_writer b) (list_any (needs_byte tab_writer) rest) e).1
    ∙ ap (λ (f : List ℕ). next_record tab_reader st.InField fields f tail) (append_assoc field (b ∷ []) rest))

quoted-plain : (fields : List (List ℕ)) (field : List ℕ) (b : ℕ) (tail : List ℕ) → (b == 34) ≡ false
    → next_record tab_reader st.InQuoted fields field (b ∷ tail) ≡ next_record tab_reader st.InQuoted fields (field ++ (b ∷ [])) tail
unfolding next_record
quoted-plain fields field b tail n = rw n refl

escaped-plain : (b : ℕ) (rest : List ℕ) → (b == 34) ≡ false → escaped tab_writer (b ∷ rest) ≡ b ∷ escaped tab_writer rest
unfolding escaped
escaped-plain b rest n = rw n refl

-- the bytes between quotes, and the quote that ends them
quoted-run : (fields : List (List ℕ)) (field x tail : List ℕ)
    → next_record tab_reader st.InQuoted fields field (escaped tab_writer x ++ (34 ∷ tail))
    ≡ next_record tab_reader st.AfterQuote fields (field ++ x) tail
unfolding next_record escaped
quoted-run fields field [] tail = rw (append-nil field) refl
quoted-run fields field (b ∷ rest) tail = elim (cases_Bool (b == 34)) [
  | inl same ↦
      subst (λ (z : ℕ). next_record tab_reader st.InQuoted fields field (escaped tab_writer (z ∷ rest) ++ (34 ∷ tail))
      ≡ next_record tab_reader st.AfterQuote fields (field ++ (z ∷ rest)) tail) (sym (eqb-true b 34 same))
      (quoted-run fields (field ++ (34 ∷ [])) rest tail
      ∙ ap (λ (f : List ℕ). next_record tab_reader st.AfterQuote fields f tail) (append_assoc field (34 ∷ []) rest))
  | inr other ↦
      rw (escaped-plain b rest other) (quoted-plain fields field b _ other
      ∙ quoted-run fields (field ++ (b ∷ [])) rest tail
      ∙ ap (λ (f : List ℕ). next_record tab_reader st.AfterQuote fields f tail) (append_assoc field (b ∷ []) rest))
]

after-quote-same : (fields : List (List ℕ)) (field : List ℕ) (c : ℕ) (tail : List ℕ) → (c == 34) ≡ false
    → next_record tab_reader st.AfterQuote fields field (c ∷ tail) ≡ next_record tab_reader st.InField fields field (c ∷ tail)
unfolding next_record
after-quote-same fields field c tail n = rw n refl

start-same : (fields : List (List ℕ)) (field : List ℕ) (c : ℕ) (tail : List ℕ) → (c == 34) ≡ false
    → next_record tab_reader st.StartField fields field (c ∷ tail) ≡ next_record tab_reader st.InField fields field (c ∷ tail)
unfolding next_record
start-same fields field c tail n = rw n refl

record-same : (fields : List (List ℕ)) (field : List ℕ) (c : ℕ) (tail : List ℕ) → (c == 13) ≡ false → (c == 10) ≡ false
    → next_record tab_reader st.StartRecord fields field (c ∷ tail) ≡ next_record tab_reader st.StartField fields field (c ∷ tail)
unfolding next_record
record-same fields field c tail r n = rw (r, n) refl

plain-start : (fields : List (List ℕ)) (x : List ℕ) (c : ℕ) (tail : List ℕ) → (c == 34) ≡ false → list_any (needs_byte tab_writer) x ≡ false
    → next_record tab_reader st.StartField fields [] (x ++ (c ∷ tail)) ≡ next_record tab_reader st.InField fields x (c ∷ tail)
plain-start fields [] c tail n p = start-same fields [] c tail n
plain-start fields (b ∷ rest) c tail n p =
    let q = plain-byte b (or_parts (needs_byte tab_writer b) (list_any (needs_byte tab_writer) rest) p).0 in
    start-same fields [] b (rest ++ (c ∷ tail)) q.1 ∙ plain-run fields [] (b ∷ rest) (c ∷ tail) p

-- a field, with quotes or without, and what follows it, which starts with no quote
field-run : (fields : List (List ℕ)) (x : List ℕ) (c : ℕ) (tail : List ℕ) → (c == 34) ≡ false
    → next_record tab_reader st.StartField fields [] (field_text tab_writer x ++ (c ∷ tail))
    ≡ next_record tab_reader st.InField fields x (c ∷ tail)
unfolding next_record
field-run fields x c tail n = elim (cases_Bool (list_any (needs_byte tab_writer) x)) [
  | inl needs ↦
      let text : field_text tab_writer x ++ (c ∷ tail) ≡ 34 ∷ (escaped tab_writer x ++ (34 ∷ c ∷ tail)) =
      rw needs (ap (λ (t : List ℕ). 34 ∷ t) (append_assoc (escaped tab_writer x) (34 ∷ []) (c ∷ tail))) in
      rw text (quoted-run fields [] x (c ∷ tail) ∙ after-quote-same fields x c tail n)
  | inr plain ↦
      let text : field_text tab_writer x ≡ x = rw plain refl in
      rw text (plain-start fields x c tail n plain)
]

-- ---- a record

end-field : (fields : List (List ℕ)) (x u : List ℕ)
    → next_record tab_reader st.InField fields x (9 ∷ u) ≡ next_record tab_reader st.StartField (fields ++ (x ∷ [])) [] u
unfolding next_record
end-field fields x u = refl

-- what follows a field: LF, or a tab and the fields left
abbrev head-of : List (List ℕ) → ℕ
head-of [] = 10
head-of (z ∷ zs) = 9

abbrev tail-of : List (List ℕ) → List ℕ → List ℕ
tail-of [] tail = tail
tail-of (z ∷ zs) tail = (field_text tab_writer z ++ fields_text tab_writer zs) ++ (10 ∷ tail)

text-head : (ys : List (List ℕ)) (tail : List ℕ) → fields_text tab_writer ys ++ (10 ∷ tail) ≡ head-of ys ∷ tail-of ys tail
unfolding fields_text
text-head [] tail = refl
text-head (z ∷ zs) tail = refl

head-plain : (ys : List (List ℕ)) → (head-of ys == 34) ≡ false
head-plain [] = refl
head-plain (z ∷ zs) = refl

rest-run : (fields : List (List ℕ)) (x : List ℕ) (rest : List (List ℕ)) (tail : List ℕ)
    → next_record tab_reader st.InField fields x (fields_text tab_writer rest ++ (10 ∷ tail)) ≡ Some (fields ++ (x ∷ rest), st.StartRecord, tail)
unfolding next_record fields_text
rest-run fields x [] tail = refl
rest-run fields x (y ∷ ys) tail =
    let e = text-head ys tail in
    let u : (field_text tab_writer y ++ fields_text tab_writer ys) ++ (10 ∷ tail) ≡ field_text tab_writer y ++ (head-of ys ∷ tail-of ys tail) =
    append_assoc (field_text tab_writer y) (fields_text tab_writer ys) (10 ∷ tail) ∙ ap (λ (t : List ℕ). field_text tab_writer y ++ t) e in
    let run = field-run (fields ++ (x ∷ [])) y (head-of ys) (tail-of ys tail) (head-plain ys) in
    let more = rest-run (fields ++ (x ∷ [])) y ys tail in
    let back = subst (λ (t : List ℕ). next_record tab_reader st.InField (fields ++ (x ∷ [])) y t ≡ Some ((fields ++ (x ∷ [])) ++ (y ∷ ys), st.StartRecord, tail)) e more in
    rw (end-field fields x _, u) (run ∙ back ∙ rw (append_assoc fields (x ∷ []) (y ∷ ys)) refl)

-- a record starts as a field does: neither the text of its first field nor a tab starts with CR or LF
first-same : (x tail : List ℕ)
    → next_record tab_reader st.StartRecord [] [] (field_text tab_writer x ++ (9 ∷ tail))
    ≡ next_record tab_reader st.StartField [] [] (field_text tab_writer x ++ (9 ∷ tail))
first-same x tail = elim (cases_Bool (list_any (needs_byte tab_writer) x)) [
  | inl needs ↦ rw needs (record-same [] [] 34 _ refl refl)
  | inr plain ↦ rw plain (first-plain x plain)
]
  where
    first-plain : (y : List ℕ) → list_any (needs_byte tab_writer) y ≡ false
        → next_record tab_reader st.StartRecord [] [] (y ++ (9 ∷ tail)) ≡ next_record tab_reader st.StartField [] [] (y ++ (9 ∷ tail))
    first-plain [] p = record-same [] [] 9 tail refl refl
    first-plain (b ∷ rest) p =
        let q = plain-byte b (or_parts (needs_byte tab_writer b) (list_any (needs_byte tab_writer) rest) p).0 in
        record-same [] [] b (rest ++ (9 ∷ tail)) q.2 q.3

row-plain : (x y : List ℕ) (ys : List (List ℕ)) (tail : List ℕ)
    → row_text tab_writer (x ∷ y ∷ ys) ++ tail ≡ field_text tab_writer x ++ (fields_text tab_writer (y ∷ ys) ++ (10 ∷ tail))
unfolding is_blank
row-plain x y ys tail =
    append_assoc (field_text tab_writer x ++ fields_text tab_writer (y ∷ ys)) (10 ∷ []) tail
    ∙ append_assoc (field_text tab_writer x) (fields_text tab_writer (y ∷ ys)) (10 ∷ tail)

-- a record of two fields or more
record-read : (x y : List ℕ) (ys : List (List ℕ)) (tail : List ℕ)
    → next_record tab_reader st.StartRecord [] [] (row_text tab_writer (x ∷ y ∷ ys) ++ tail) ≡ Some (x ∷ y ∷ ys, st.StartRecord, tail)
record-read x y ys tail =
    let e = text-head (y ∷ ys) tail in
    let run = field-run [] x 9 (tail-of (y ∷ ys) tail) refl in
    let more = subst (λ (t : List ℕ). next_record tab_reader st.InField [] x t ≡ Some ([] ++ (x ∷ y ∷ ys), st.StartRecord, tail)) e (rest-run [] x (y ∷ ys) tail) in
    rw (row-plain x y ys tail, e) (first-same x (tail-of (y ∷ ys) tail) ∙ run ∙ more)

-- ---- all records

abbrev pub IsLong : List (List ℕ) → Type 0
IsLong [] = ⊥
IsLong (x ∷ []) = ⊥
IsLong (x ∷ y ∷ ys) = Unit {0}

-- a record's text is not empty
longer : (body mark rest : List ℕ) → length rest < length ((body ++ (mark ++ (10 ∷ []))) ++ rest)
longer body mark rest = omega (arith, length-append (body ++ (mark ++ (10 ∷ []))) rest, length-append body (mark ++ (10 ∷ [])), length-append mark (10 ∷ []))

-- with as many turns as there are bytes, and one more
pub records_read : (records : List (List (List ℕ))) → AllByRecursion IsLong records → (turns : ℕ) → length (records_text records) < turns
    → records_from tab_reader turns st.StartRecord (records_text records) ≡ records
unfolding records_from next_record records_text is_blank
records_read [] long zero enough = absurd (omega arith)
records_read [] long (suc turns) enough = refl
records_read ([] ∷ records) long turns enough = absurd long.0
records_read ((x ∷ []) ∷ records) long turns enough = absurd long.0
records_read ((x ∷ y ∷ ys) ∷ records) long zero enough = absurd (omega arith)
records_read ((x ∷ y ∷ ys) ∷ records) long (suc turns) enough =
    let fewer : length (records_text records) < turns = omega (arith, longer (row_body tab_writer (x ∷ y ∷ ys)) [] (records_text records)) in
    rw (record-read x y ys (records_text records)) (ap (λ (t : List (List (List ℕ))). (x ∷ y ∷ ys) ∷ t) (records_read records long.1 turns fewer))
