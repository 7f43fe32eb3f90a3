-- Written lines are cut into just the lines that they were.
use Rattle.std.proofs.Common.{◌≡◌, ℕ, ◌+◌, ◌-◌, ◌≤◌, arith, Bool, true, false, cond, ◌==◌, List, [], ◌∷◌, ◌++◌, length, reverse, slice_get, Some, ◌⊎◌, inl, inr, refl, sym, ap, ◌∙◌, append_assoc, length-append}
use Rattle.std.specs.List.{AllByRecursion}
use Rattle.std.proofs.lemmas.Bool.{cases_Bool}
use Rattle.std.proofs.lemmas.List.{reverse-append, reverse-reverse}
use Rattle.std.proofs.lemmas.List.Elements.{All-append, All-from_recursion}
use Rattle.std.proofs.lemmas.Option.{slice_get-get_or}
use Rattle.std.proofs.Math.Seq.{get_or-append_seam}
use Rattle.feed_reader.specs.MhIo.Lines.{with_lines, is_lf, lines_behind, without_cr, without_first_cr}
use Rattle.feed_reader.specs.MhIo.LinesSteps.{HasNoLf}
use Rattle.feed_reader.specs.MhIo.Limits.{most_bytes}
use Rattle.mh_io.proofs.LinesRuns.{line_run}
use Rattle.feed_writer.specs.Lines.{is_cr, ends_in_cr, written, line_text, lines_text, IsTextLine}

-- a line is empty, or it has a last byte
pub ends : (line : List ℕ) → (line ≡ []) ⊎ ((front : List ℕ) × (b : ℕ) × (line ≡ front ++ b ∷ []))
ends [] = inl refl
ends (b ∷ []) = inr ([], b, refl)
ends (b ∷ c ∷ cs) = elim (ends (c ∷ cs)) [
  | inl none ↦ absurd (cc none)
  | inr (front, d, is) ↦ inr (b ∷ front, d, ap (λ (xs : List ℕ). b ∷ xs) is)
]

last_is : (front : List ℕ) (b : ℕ) → slice_get (front ++ b ∷ []) (length (front ++ b ∷ []) - 1) ≡ Some b
last_is front b =
    let place : length (front ++ b ∷ []) - 1 ≡ length front = omega (arith, length-append front (b ∷ [])) in
    ap (slice_get (front ++ b ∷ [])) place
    ∙ (slice_get-get_or (front ++ b ∷ []) (length front) 0 (omega (arith, length-append front (b ∷ [])))
    ∙ ap (λ x. Some x) (get_or-append_seam front b [] 0))

pub last_cr : (front : List ℕ) (b : ℕ) → ends_in_cr (front ++ b ∷ []) ≡ (b == 13)
last_cr front b = ap is_cr (last_is front b)

-- ---- the CR that is left off

turned : (front : List ℕ) (b : ℕ) → reverse (front ++ b ∷ []) ≡ b ∷ reverse front
turned front b = reverse-append front (b ∷ [])

pub cr_left_off : (front : List ℕ) → without_cr (front ++ 13 ∷ []) ≡ front
cr_left_off front = ap (λ r. reverse (without_first_cr r)) (turned front 13) ∙ reverse-reverse front

pub other_stays : (front : List ℕ) (b : ℕ) → (b == 13) ≡ false → without_cr (front ++ b ∷ []) ≡ front ++ b ∷ []
other_stays front b other =
    ap (λ r. reverse (without_first_cr r)) (turned front b)
    ∙ rw other (ap reverse (sym (turned front b)) ∙ reverse-reverse (front ++ b ∷ []))

by_last : (front : List ℕ) (b : ℕ) → without_cr (written (front ++ b ∷ [])) ≡ front ++ b ∷ []
by_last front b = elim (cases_Bool (b == 13)) [
  | inl cr ↦ let there : ends_in_cr (front ++ b ∷ []) ≡ true = last_cr front b ∙ cr in rw there (cr_left_off (front ++ b ∷ []))
  | inr other ↦ let none : ends_in_cr (front ++ b ∷ []) ≡ false = last_cr front b ∙ other in rw none (other_stays front b other)
]

pub read_so : (line : List ℕ) → without_cr (written line) ≡ line
read_so line = elim (ends line) [
  | inl none ↦ rw none refl
  | inr (front, b, is) ↦ rw is (by_last front b)
]

-- ---- the lines

no_lf_written : (line : List ℕ) → HasNoLf line → HasNoLf (written line)
no_lf_written line free = elim (ends_in_cr line) as (λ c. HasNoLf (cond c (line ++ 13 ∷ []) line)) [
  | true ↦ All-append (λ b. is_lf b ≡ false) line (13 ∷ []) free (All-from_recursion (λ b. is_lf b ≡ false) (13 ∷ []) (refl, tt))
  | false ↦ free
]

text_first : (line : List ℕ) (lines : List (List ℕ)) (further : List ℕ) → lines_text (line ∷ lines) ++ further ≡ written line ++ 10 ∷ (lines_text lines ++ further)
text_first line lines further =
    append_assoc (line_text line) (lines_text lines) further ∙ append_assoc (written line) (10 ∷ []) (lines_text lines ++ further)

pub text_length : (line : List ℕ) (lines : List (List ℕ)) → length (lines_text (line ∷ lines)) ≡ length (written line) + (1 + length (lines_text lines))
text_length line lines = omega (arith, length-append (line_text line) (lines_text lines), length-append (written line) (10 ∷ []))

pub lines_read : (lines : List (List ℕ)) (passed : ℕ) (further : List ℕ) (ended : Bool) → AllByRecursion IsTextLine lines → passed + length (lines_text lines) ≤ most_bytes → lines_behind passed (lines_text lines ++ further) ended ≡ with_lines lines (lines_behind (passed + length (lines_text lines)) further ended)
lines_read [] passed further ended are near = ap (λ k. lines_behind k further ended) (omega arith)
lines_read (line ∷ lines) passed further ended are near =
    let one = are.0 in
    let long = text_length line lines in
    let place : passed + (length (written line) + 1) + length (lines_text lines) ≡ passed + length (lines_text (line ∷ lines)) = omega (arith, long) in
    ap (λ bytes. lines_behind passed bytes ended) (text_first line lines further)
    ∙ (line_run passed (written line) (lines_text lines ++ further) ended (no_lf_written line one.text) one.short (omega (arith, near, long))
    ∙ (ap (with_lines (without_cr (written line) ∷ [])) (lines_read lines (passed + (length (written line) + 1)) further ended are.1 (omega (arith, near, long)))
    ∙ rw (read_so line, place) refl))
