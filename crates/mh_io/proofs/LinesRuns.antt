-- The lines of bytes whose front is known.
use Rattle.std.proofs.Common.{◌≡◌, ℕ, ◌+◌, ◌-◌, ◌≤◌, ◌<◌, Bool, true, false, List, [], ◌∷◌, ◌++◌, length, take, refl, sym, ap, ◌∙◌, subst, arith, one-add, nat_le, nat_lt, if◌then◌else◌, length-append}
use Rattle.std.specs.List.{slice_split}
use Rattle.std.proofs.lemmas.List.{take_all}
use Rattle.std.proofs.lemmas.List.Splits.{slice_split_none, slice_split_at}
use Rattle.std.proofs.lemmas.Bool.Decides.{nat_tests}
use Rattle.mh_units.proofs.Cuts.{first_part}
use Rattle.mh_io.specs.Lines.{Open, Long, Over, stopped, with_lines, is_lf, without_cr, last_line, at_rest, cut, lines_behind}
use Rattle.mh_io.specs.LinesSteps.{HasNoLf, IsPart}
use Rattle.mh_io.specs.Limits.{most_bytes, line_bytes}
use Rattle.mh_io.proofs.LinesPieces.{front_and}

is_below : (a b : ℕ) → a < b → nat_le b a ≡ false
is_below a b h = grind (arith, nat_tests)

is_within : (a b : ℕ) → b ≤ a → nat_lt a b ≡ false
is_within a b h = grind (arith, nat_tests)

is_past : (a b : ℕ) → a < b → nat_lt a b ≡ true
is_past a b h = grind (arith, nat_tests)

is_full : (a b : ℕ) → a ≤ b → nat_le a b ≡ true
is_full a b h = grind (arith, nat_tests)

-- no LF is among the bytes that are looked at
no_line : (passed : ℕ) (bytes : List ℕ) (ended : Bool) → HasNoLf (take (most_bytes - passed) bytes) → lines_behind passed bytes ended ≡ at_rest (take (most_bytes - passed) bytes) (nat_lt most_bytes (passed + length bytes)) ended
unfolding lines_behind
no_line passed bytes ended free =
    ap (λ parts. cut parts (nat_lt most_bytes (passed + length bytes)) ended) (slice_split_none is_lf (take (most_bytes - passed) bytes) free)

-- the bytes are a part of a line
pub part_run : (passed : ℕ) (bytes : List ℕ) (ended : Bool) → IsPart passed bytes → lines_behind passed bytes ended ≡ (if ended then last_line bytes else stopped Open)
part_run passed bytes ended part =
    let all : take (most_bytes - passed) bytes ≡ bytes = take_all (most_bytes - passed) bytes (let near = part.near in omega arith) in
    no_line passed bytes ended (subst HasNoLf (sym all) part.text)
    ∙ rw (all, is_below (length bytes) line_bytes part.short, is_within most_bytes (passed + length bytes) part.near) refl

-- a line's length of bytes has no LF
pub long_run : (passed : ℕ) (bytes : List ℕ) (ended : Bool) → HasNoLf (take (most_bytes - passed) bytes) → length (take (most_bytes - passed) bytes) ≡ line_bytes → lines_behind passed bytes ended ≡ stopped Long
long_run passed bytes ended free long =
    no_line passed bytes ended free ∙ rw (is_full line_bytes (length (take (most_bytes - passed) bytes)) (omega arith)) refl

-- no LF is among the last bytes that are looked at, and more came
pub over_run : (passed : ℕ) (bytes : List ℕ) (ended : Bool) → HasNoLf (take (most_bytes - passed) bytes) → length (take (most_bytes - passed) bytes) < line_bytes → most_bytes < passed + length bytes → lines_behind passed bytes ended ≡ stopped Over
over_run passed bytes ended free short over =
    no_line passed bytes ended free
    ∙ rw (is_below (length (take (most_bytes - passed) bytes)) line_bytes short, is_past most_bytes (passed + length bytes) over) refl

cut_first : (text bytes : List ℕ) (over ended : Bool) → length text < line_bytes → cut (text ∷ slice_split is_lf bytes) over ended ≡ with_lines (without_cr text ∷ []) (cut (slice_split is_lf bytes) over ended)
cut_first text bytes over ended short =
    let f = first_part is_lf bytes in
    rw (f.2, is_below (length text) line_bytes short) refl

first_taken : (b : ℕ) (bs : List ℕ) (n : ℕ) → take (1 + n) (b ∷ bs) ≡ b ∷ take n bs
first_taken b bs n = rw one-add refl

-- the bytes begin with a line and its LF
pub line_run : (passed : ℕ) (text bytes : List ℕ) (ended : Bool) → HasNoLf text → length text < line_bytes → passed + length text < most_bytes → lines_behind passed (text ++ 10 ∷ bytes) ended ≡ with_lines (without_cr text ∷ []) (lines_behind (passed + (length text + 1)) bytes ended)
unfolding lines_behind
line_run passed text bytes ended free short near =
    let room = most_bytes - (passed + (length text + 1)) in
    let all : most_bytes - passed ≡ length text + (1 + room) = omega arith in
    let front : take (most_bytes - passed) (text ++ 10 ∷ bytes) ≡ text ++ 10 ∷ take room bytes =
    ap (λ k. take k (text ++ 10 ∷ bytes)) all ∙ (front_and text (10 ∷ bytes) (length text) (1 + room) refl ∙ ap (λ xs. text ++ xs) (first_taken 10 bytes room)) in
    let count : passed + length (text ++ 10 ∷ bytes) ≡ (passed + (length text + 1)) + length bytes = omega (arith, length-append text (10 ∷ bytes)) in
    rw (front, count, slice_split_at is_lf text 10 (take room bytes) free refl) (cut_first text (take room bytes) _ ended short)
