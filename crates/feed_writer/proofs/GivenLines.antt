-- The lines that a source gives: none is long, and each but the last is read as it was before it was written.
use Rattle.std.proofs.Common.{◌≡◌, ℕ, ◌+◌, ◌-◌, ◌≤◌, ◌<◌, arith, Bool, true, false, cond, ◌==◌, nat_le, nat_lt, List, [], ◌∷◌, ◌++◌, length, take, inl, inr, ◌∙◌, subst, length-append}
use Rattle.std.specs.List.{AllByRecursion, slice_split, onto_first}
use Rattle.std.proofs.lemmas.Bool.{cases_Bool, eqb-true, leb-false}
use Rattle.std.proofs.lemmas.List.Elements.{All-nil, All-cons, All-take}
use Rattle.std.proofs.Math.Seq.{take-append_seam}
use Rattle.feed_reader.specs.MhIo.Lines.{Over, Open, is_lf, stopped, without_cr, last_line, at_rest, cut, lines_behind, lines}
use Rattle.feed_reader.specs.MhIo.LinesSteps.{HasNoLf}
use Rattle.feed_reader.specs.MhIo.Limits.{most_bytes, line_bytes}
use Rattle.feed_writer.specs.Lines.{ends_in_cr, written, IsTextLine}
use Rattle.feed_writer.proofs.WrittenLines.{ends, last_cr, cr_left_off, other_stays}

-- a line, and those behind it: the last one may end in CR, so that it would be long with one CR more
pub record IsGiven (line : List ℕ) (further : List (List ℕ)) : Type 0 where
  pub short : length line < line_bytes
  pub text : 0 < length further → IsTextLine line

abbrev pub AreGiven : List (List ℕ) → Type 0
AreGiven [] = Unit {0}
AreGiven (line ∷ further) = IsGiven line further × AreGiven further

-- ---- the parts between the LFs

onto : (b : ℕ) (parts : List (List ℕ)) → is_lf b ≡ false → AllByRecursion HasNoLf parts → AllByRecursion HasNoLf (onto_first b parts)
onto b [] other free = (All-cons (λ c. is_lf c ≡ false) b [] other (All-nil (λ c. is_lf c ≡ false)), tt)
onto b (part ∷ parts) other free = (All-cons (λ c. is_lf c ≡ false) b part other free.0, free.1)

parts_free : (bytes : List ℕ) → AllByRecursion HasNoLf (slice_split is_lf bytes)
parts_free [] = (All-nil (λ b. is_lf b ≡ false), tt)
parts_free (b ∷ bs) =
    let more = parts_free bs in
    elim (cases_Bool (is_lf b)) [
      | inl lf ↦ rw lf (All-nil (λ b. is_lf b ≡ false), more)
      | inr other ↦ rw other (onto b (slice_split is_lf bs) other more)
    ]

-- ---- a line with LF behind it

written_size : (line : List ℕ) → (length line ≤ length (written line)) × (length (written line) ≤ length line + 1)
written_size line = elim (ends_in_cr line) as (λ c. (length line ≤ length (cond c (line ++ 13 ∷ []) line)) × (length (cond c (line ++ 13 ∷ []) line) ≤ length line + 1)) [
  | true ↦ (omega (arith, length-append line (13 ∷ [])), omega (arith, length-append line (13 ∷ [])))
  | false ↦ (omega arith, omega arith)
]

by_last : (front : List ℕ) (b : ℕ) → HasNoLf (front ++ b ∷ []) → length (front ++ b ∷ []) < line_bytes → IsTextLine (without_cr (front ++ b ∷ []))
by_last front b free short = elim (cases_Bool (b == 13)) [
  | inl cr ↦
      let same : without_cr (front ++ b ∷ []) ≡ front = rw (eqb-true b 13 cr) (cr_left_off front) in
      let before : HasNoLf front = subst HasNoLf (take-append_seam front (b ∷ [])) (All-take (λ c. is_lf c ≡ false) (length front) (front ++ b ∷ []) free) in
      rw same (record { text = before; short = omega (arith, short, length-append front (b ∷ []), (written_size front).1) })
  | inr other ↦
      let none : ends_in_cr (front ++ b ∷ []) ≡ false = last_cr front b ∙ other in
      rw (other_stays front b other) (record { text = free; short = rw none short })
]

text_line : (text : List ℕ) → HasNoLf text → length text < line_bytes → IsTextLine (without_cr text)
text_line text free short = elim (ends text) [
  | inl none ↦ rw none (record { text = All-nil (λ b. is_lf b ≡ false); short = omega arith })
  | inr (front, b, is) ↦ rw is (by_last front b (subst HasNoLf is free) (subst (λ (t : List ℕ). length t < line_bytes) is short))
]

line_given : (line : List ℕ) (further : List (List ℕ)) → IsTextLine line → IsGiven line further
line_given line further is = record { short = omega (arith, is.short, (written_size line).0); text = λ some. is }

-- ---- the lines of the parts

last_given : (over ended : Bool) (rest : List ℕ) → length rest < line_bytes → AreGiven (cond over (stopped Over) (cond ended (last_line rest) (stopped Open))).lines
last_given true ended rest short = tt
last_given false false rest short = tt
last_given false true [] short = tt
last_given false true (b ∷ bs) short = (record { short = short; text = λ some. absurd (omega (arith, some)) }, tt)

rest_given : (rest : List ℕ) (over ended : Bool) → AreGiven (at_rest rest over ended).lines
rest_given rest over ended = elim (cases_Bool (nat_le line_bytes (length rest))) [
  | inl long ↦ rw long tt
  | inr short ↦ rw short (last_given over ended rest (leb-false line_bytes (length rest) short))
]

cut_given : (parts : List (List ℕ)) (over ended : Bool) → AllByRecursion HasNoLf parts → AreGiven (cut parts over ended).lines
cut_given [] over ended free = tt
cut_given (rest ∷ []) over ended free = rest_given rest over ended
cut_given (text ∷ next ∷ more) over ended free =
    let further = cut_given (next ∷ more) over ended free.1 in
    elim (cases_Bool (nat_le line_bytes (length text))) [
      | inl long ↦ rw long tt
      | inr short ↦ rw short (line_given (without_cr text) _ (text_line text free.0 (leb-false line_bytes (length text) short)), further)
    ]

pub lines_given : (taken : List ℕ) (ended : Bool) → AreGiven (lines taken ended).lines
unfolding lines_behind
lines_given taken ended =
    let looked = take (most_bytes - 0) taken in
    cut_given (slice_split is_lf looked) (nat_lt most_bytes (0 + length taken)) ended (parts_free looked)

-- the first ones alone
pub front_given : (before behind : List (List ℕ)) → AreGiven (before ++ behind) → AreGiven before
front_given [] behind given = tt
front_given (line ∷ before) behind given =
    let first = given.0 in
    (record { short = first.short; text = λ some. first.text (omega (arith, some, length-append before behind)) }, front_given before behind given.1)
