-- Lines as they are written, each with LF behind it.
use Rattle.std.specs.Prelude.{◌≡◌, ℕ, ◌-◌, ◌<◌, List, [], ◌∷◌, ◌++◌, length, flat_map, Bool, false, ◌==◌, slice_get, Option, Some, None, if◌then◌else◌}
use Rattle.feed_reader.specs.MhIo.LinesSteps.{HasNoLf}
use Rattle.feed_reader.specs.MhIo.Limits.{line_bytes}
use Rattle.feed_reader.specs.MhUnits.Cut.{parts_at}

abbrev pub is_cr : Option ℕ → Bool
is_cr None = false
is_cr (Some b) = b == 13

abbrev pub ends_in_cr : List ℕ → Bool
ends_in_cr line = is_cr (slice_get line (length line - 1))

-- one CR before the LF is left off when a line is read, so a line that ends in CR has one more
abbrev pub written : List ℕ → List ℕ
written line = if ends_in_cr line then line ++ 13 ∷ [] else line

abbrev pub line_text : List ℕ → List ℕ
line_text line = written line ++ 10 ∷ []

abbrev pub lines_text : List (List ℕ) → List ℕ
lines_text lines = flat_map line_text lines

-- a line that is read as it was before it was written: no LF is in it, and it isn't long
pub record IsTextLine (line : List ℕ) : Type 0 where
  pub text : HasNoLf line
  pub short : length (written line) < line_bytes

-- one that is written as it is
pub record IsPlainLine (line : List ℕ) : Type 0 where
  pub is : IsTextLine line
  pub same : written line ≡ line

-- all but the last
abbrev pub front_of : List (List ℕ) → List (List ℕ)
front_of [] = []
front_of (line ∷ []) = []
front_of (line ∷ next ∷ more) = line ∷ front_of (next ∷ more)

-- the lines of a text: the parts before its LFs
abbrev pub lines_in : List ℕ → List (List ℕ)
lines_in text = front_of (parts_at 10 text)
