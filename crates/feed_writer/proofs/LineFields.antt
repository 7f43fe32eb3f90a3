-- The fields of a line: what stands in them, and that the line is cut into just these.
use Rattle.std.proofs.Common.{◌≡◌, ℕ, ◌<◌, ◌≤◌, true, false, ◌==◌, List, [], ◌∷◌, ◌++◌, flat_map, length, inl, inr, refl, ap, ◌∙◌, subst, append-nil}
use Rattle.std.specs.List.{AllByRecursion, list_all, slice_split}
use Rattle.std.proofs.lemmas.Bool.{and_parts}
use Rattle.std.proofs.lemmas.Bool.Decides.{eqb_tells}
use Rattle.std.proofs.lemmas.List.Elements.{All-from_recursion}
use Rattle.std.proofs.lemmas.List.Splits.{slice_split_none, slice_split_at}
use Rattle.feed_reader.specs.MhIo.Lines.{is_lf}
use Rattle.feed_reader.specs.CsaTerms.SimmKinds.NameText.{is_printable, is_full_name}
use Rattle.feed_reader.specs.Fields.{fields_of}
use Rattle.crif_writer.proofs.Plain.{IsPlain, plain_full_name}
use Rattle.feed_writer.specs.Lines.{ends_in_cr, IsPlainLine}
use Rattle.feed_writer.specs.Messages.{next_field, line_of}
use Rattle.feed_writer.proofs.WrittenLines.{ends, last_cr}

-- a byte that stands in no field is none of these
pub none_of : (b c : ℕ) → is_printable c ≡ false → is_printable b ≡ true → (b == c) ≡ false
none_of b c never h = elim (eqb_tells b c) [
  | inl same ↦ absurd (cc (subst (λ x. is_printable x ≡ true) same.1 h, never))
  | inr other ↦ other.0
]

-- a field has bytes that print alone, and so many at most
pub record IsField (most : ℕ) (field : List ℕ) : Type 0 where
  pub bytes : list_all is_printable field ≡ true
  pub few : length field ≤ most

pub printed : (P : ℕ → Type 0) (field : List ℕ) → ((b : ℕ) → is_printable b ≡ true → P b) → list_all is_printable field ≡ true → AllByRecursion P field
printed P [] from h = tt
printed P (b ∷ bs) from h =
    let both = and_parts (is_printable b) (list_all is_printable bs) h in
    (from b both.0, printed P bs from both.1)

-- ---- names

pub plain_field : (field : List ℕ) → IsPlain field → IsField 64 field
plain_field field is = record { bytes = is.prints; few = is.short }

pub full_name_field : (name : List ℕ) → is_full_name name ≡ true → IsField 64 name
full_name_field name full = plain_field name (plain_full_name name full)

-- ---- the fields of a line

pub fields_back : (field : List ℕ) (fields : List (List ℕ)) → AllByRecursion (λ f. list_all is_printable f ≡ true) (field ∷ fields) → fields_of (line_of (field ∷ fields)) ≡ field ∷ fields
fields_back field [] are =
    let free = All-from_recursion (λ b. (b == 9) ≡ false) field (printed (λ b. (b == 9) ≡ false) field (λ b. none_of b 9 refl) are.0) in
    ap (slice_split (λ b. b == 9)) (append-nil field) ∙ slice_split_none (λ b. b == 9) field free
fields_back field (g ∷ gs) are =
    let free = All-from_recursion (λ b. (b == 9) ≡ false) field (printed (λ b. (b == 9) ≡ false) field (λ b. none_of b 9 refl) are.0) in
    slice_split_at (λ b. b == 9) field 9 (line_of (g ∷ gs)) free refl
    ∙ ap (λ (rest : List (List ℕ)). field ∷ rest) (fields_back g gs are.1)

-- ---- a line of fields

-- a byte of a field, or the tab between two
abbrev IsLineByte : ℕ → Type 0
IsLineByte b = ((b == 10) ≡ false) × ((b == 13) ≡ false)

field_byte : (b : ℕ) → is_printable b ≡ true → IsLineByte b
field_byte b h = (none_of b 10 refl h, none_of b 13 refl h)

both_all : (P : ℕ → Type 0) (xs ys : List ℕ) → AllByRecursion P xs → AllByRecursion P ys → AllByRecursion P (xs ++ ys)
both_all P [] ys first second = second
both_all P (x ∷ xs) ys first second = (first.0, both_all P xs ys first.1 second)

further_bytes : (fields : List (List ℕ)) → AllByRecursion (λ f. list_all is_printable f ≡ true) fields → AllByRecursion IsLineByte (flat_map next_field fields)
further_bytes [] are = tt
further_bytes (f ∷ fs) are = ((refl, refl), both_all IsLineByte f (flat_map next_field fs) (printed IsLineByte f field_byte are.0) (further_bytes fs are.1))

line_bytes_are : (field : List ℕ) (fields : List (List ℕ)) → AllByRecursion (λ f. list_all is_printable f ≡ true) (field ∷ fields) → AllByRecursion IsLineByte (line_of (field ∷ fields))
line_bytes_are field fields are = both_all IsLineByte field (flat_map next_field fields) (printed IsLineByte field field_byte are.0) (further_bytes fields are.1)

last_of : (P : ℕ → Type 0) (front : List ℕ) (b : ℕ) → AllByRecursion P (front ++ b ∷ []) → P b
last_of P [] b all = all.0
last_of P (x ∷ xs) b all = last_of P xs b all.1

no_cr : (line : List ℕ) → AllByRecursion IsLineByte line → ends_in_cr line ≡ false
no_cr line bytes = elim (ends line) [
  | inl none ↦ rw none refl
  | inr (front, b, is) ↦ rw is (last_cr front b ∙ (last_of IsLineByte front b (subst (AllByRecursion IsLineByte) is bytes)).1)
]

no_lf : (line : List ℕ) → AllByRecursion IsLineByte line → AllByRecursion (λ b. is_lf b ≡ false) line
no_lf [] bytes = tt
no_lf (b ∷ bs) bytes = (bytes.0.0, no_lf bs bytes.1)

-- a line of bytes that are neither LF nor CR, and that isn't long
pub plain_bytes : (line : List ℕ) → AllByRecursion IsLineByte line → length line < 65536 → IsPlainLine line
plain_bytes line bytes short =
    let none = no_cr line bytes in
    record {
      is = record { text = All-from_recursion (λ b. is_lf b ≡ false) line (no_lf line bytes); short = rw none short };
      same = rw none refl;
    }

pub plain_line : (field : List ℕ) (fields : List (List ℕ)) → AllByRecursion (λ f. list_all is_printable f ≡ true) (field ∷ fields) → length (line_of (field ∷ fields)) < 65536 → IsPlainLine (line_of (field ∷ fields))
plain_line field fields are short = plain_bytes (line_of (field ∷ fields)) (line_bytes_are field fields are) short
