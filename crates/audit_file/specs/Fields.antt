-- The lines of the format beside those of messages.
use Rattle.std.specs.Prelude.{ℕ, List, [], ◌∷◌, ◌==◌, nat_lt, if◌then◌else◌, Option, Some, None, codes}
use Rattle.std.specs.Str.{bytes_eq}
use Rattle.feed_reader.specs.Fields.{◌>>=◌}
use Rattle.feed_reader.specs.Values.{number}

-- a number from 0 in decimal, without leading zeros
abbrev pub count_of : List ℕ → Option ℕ
count_of field = if bytes_eq field (codes "0") then Some 0 else number field

-- what stands behind a front
abbrev pub behind : List ℕ → List ℕ → Option (List ℕ)
behind [] text = Some text
behind (p ∷ ps) [] = None
behind (p ∷ ps) (b ∷ bs) = if b == p then behind ps bs else None

-- the number of entries in the line that begins the set of this name
unfoldable pub header_of : List ℕ → List ℕ → Option ℕ
header_of name line = do
  text ← behind (codes "AUDIT\t") line
  rest ← behind name text
  count ← behind (codes "\t") rest
  count_of count

-- a caller is below 1,024
abbrev pub small : ℕ → Option ℕ
small caller = if nat_lt caller 1024 then Some caller else None

-- the caller in the line that begins an entry
unfoldable pub caller_of : List ℕ → Option ℕ
caller_of line = do
  text ← behind (codes "BY\t") line
  caller ← count_of text
  small caller

-- the text of a reply line
abbrev pub reply_of : List ℕ → Option (List ℕ)
reply_of line = behind (codes "=\t") line
