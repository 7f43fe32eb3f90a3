-- Records written one after another.
use Rattle.std.proofs.Common.{◌≡◌, ◌≢◌, ℕ, List, [], ◌∷◌, ◌++◌, false, Option, Some, None, Result, Ok, Err, OnOk, refl, sym, ap, ◌∙◌, subst, append_assoc}
use Rattle.std.specs.Global.{Vec}
use Rattle.std.specs.Io.KnownBytes.{Appends}
use Rattle.std.specs.Result.{is_ok}
use Rattle.std.proofs.lemmas.List.{append-nil}
use Rattle.csv.specs.Writing.{row_text, writer_setup, fields_written, has_written, text_written}
use Rattle.csv.specs.declared.writer.QuoteStyle.TheVariants as style
use Rattle.csv.specs.declared.writer.Writer.{Writer}
use Rattle.crif_writer.specs.Text.{tab_writer, records_text, HasWritten, WritesMore}

-- the bytes that are known of a writer over bytes in memory
abbrev pub bytes_in : Writer (Vec ℕ) → Option (List ℕ)
bytes_in writer = text_written (λ (v : Vec ℕ). Some v.items) writer

appended : (before after : Option (List ℕ)) (bytes more : List ℕ) → before ≡ Some bytes → Appends before after more → after ≡ Some (bytes ++ more)
appended None after bytes more e h = cc
appended (Some b) None bytes more e h = absurd h
appended (Some b) (Some a) bytes more e h = let same : b ≡ bytes = cc in ap (λ x. Some x) (h ∙ ap (λ x. x ++ more) same)

text_of_one : (fields : List (List ℕ)) → records_text (fields ∷ []) ≡ row_text tab_writer fields
unfolding records_text
text_of_one fields = append-nil (row_text tab_writer fields)

-- a record's text behind the others leaves the writer between two records
pub one_more : (before after : Writer (Vec ℕ)) (fields : List (List ℕ))
    → ((fields_written before ≡ 0) → (has_written before ≡ false) → ((writer_setup before).style ≢ style.NonNumeric) → Appends (bytes_in before) (bytes_in after) (row_text (writer_setup before) fields))
    → fields_written after ≡ 0 → has_written after ≡ false → writer_setup after ≡ writer_setup before → WritesMore before after (fields ∷ [])
one_more before after fields adds no_field no_byte same bytes h =
    let plain : (writer_setup before).style ≢ style.NonNumeric = rw h.setup (λ e. cc e) in
    let more : Appends (bytes_in before) (bytes_in after) (row_text tab_writer fields) = rw h.setup at (adds h.no_field h.no_byte plain) in
    record {
      setup = same ∙ h.setup;
      no_field = no_field;
      no_byte = no_byte;
      text = appended (bytes_in before) (bytes_in after) bytes (row_text tab_writer fields) h.text more ∙ ap (λ x. Some (bytes ++ x)) (sym (text_of_one fields));
    }

-- the same of a call that may fail, and of what is answered in its place
pub one_more_on_ok : {A B D E : Type 0} (r : Result A E) (s : Result B D) (before after : Writer (Vec ℕ)) (fields : List (List ℕ)) → is_ok s ≡ is_ok r
    → OnOk r ((fields_written before ≡ 0) → (has_written before ≡ false) → ((writer_setup before).style ≢ style.NonNumeric) → Appends (bytes_in before) (bytes_in after) (row_text (writer_setup before) fields))
    → OnOk r (fields_written after ≡ 0) → OnOk r (has_written after ≡ false) → OnOk r (writer_setup after ≡ writer_setup before) → OnOk s (WritesMore before after (fields ∷ []))
one_more_on_ok (Ok x) (Ok y) before after fields e adds no_field no_byte same = one_more before after fields adds no_field no_byte same
one_more_on_ok (Ok x) (Err d) before after fields e adds no_field no_byte same = cc
one_more_on_ok (Err c) (Ok y) before after fields e adds no_field no_byte same = cc
one_more_on_ok (Err c) (Err d) before after fields e adds no_field no_byte same = tt

-- ---- more records

records_text-append : (xs ys : List (List (List ℕ))) → records_text (xs ++ ys) ≡ records_text xs ++ records_text ys
unfolding records_text
records_text-append [] ys = refl
records_text-append (x ∷ xs) ys = ap (λ t. row_text tab_writer x ++ t) (records_text-append xs ys) ∙ sym (append_assoc (row_text tab_writer x) (records_text xs) (records_text ys))

no_text : records_text [] ≡ []
unfolding records_text
no_text = refl

pub writes_none : (writer : Writer (Vec ℕ)) → WritesMore writer writer []
writes_none writer bytes h = subst (HasWritten writer) (sym (ap (λ x. bytes ++ x) no_text ∙ append-nil bytes)) h

pub writes_then : (a b c : Writer (Vec ℕ)) (xs ys : List (List (List ℕ))) → WritesMore a b xs → WritesMore b c ys → WritesMore a c (xs ++ ys)
writes_then a b c xs ys f g bytes h =
    subst (HasWritten c) (append_assoc bytes (records_text xs) (records_text ys) ∙ ap (λ x. bytes ++ x) (sym (records_text-append xs ys))) (g (bytes ++ records_text xs) (f bytes h))

-- from no bytes on, and behind records
pub after_nothing : (before after : Writer (Vec ℕ)) (records : List (List (List ℕ))) → WritesMore before after records → HasWritten before [] → HasWritten after (records_text records)
after_nothing before after records f h = f [] h

pub after_records : (before after : Writer (Vec ℕ)) (xs ys : List (List (List ℕ))) → WritesMore before after ys → HasWritten before (records_text xs) → HasWritten after (records_text (xs ++ ys))
after_records before after xs ys f h = subst (HasWritten after) (sym (records_text-append xs ys)) (f (records_text xs) h)
