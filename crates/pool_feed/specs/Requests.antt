-- A pool's feed: what a line asks, by its fields.
use Rattle.std.specs.Prelude.{ℕ, ◌≤◌, ◌^◌, List, [], ◌∷◌, Option, None, option_map, pos, ◌≤ℤ◌, unsigned_abs, codes, if◌then◌else◌}
use Rattle.std.specs.Str.{bytes_eq}
use Rattle.feed_reader.specs.Fields.{fields_of, ◌>>=◌}
use Rattle.feed_reader.specs.Values.{amount}
use Rattle.pool_feed.specs.declared.request.Request.{Request}
use Rattle.pool_feed.specs.declared.request.Request.TheVariants.{Allot, Give, Call}
use Rattle.pool_feed.specs.Values.{margin, some_amount}

-- the word with which its line begins
abbrev pub request_word : Request → List ℕ
request_word (Allot amount) = codes "ALLOT"
request_word (Give amount) = codes "GIVE"
request_word (Call margin booked) = codes "CALL"

-- ALLOT and GIVE: an amount of at least one cent
abbrev pub moving : List ℕ → List ℕ → Option Request
moving word field =
    if bytes_eq word (codes "ALLOT") then option_map Allot (some_amount field)
    else if bytes_eq word (codes "GIVE") then option_map Give (some_amount field)
    else None

-- CALL: a margin that isn't negative, and what is booked
abbrev pub calling : List ℕ → List ℕ → List ℕ → Option Request
calling word first second =
    if bytes_eq word (codes "CALL")
    then (margin first >>= λ m. option_map (Call m) (amount second))
    else None

-- by all fields of the line
abbrev pub request_by : List (List ℕ) → Option Request
request_by (word ∷ field ∷ []) = moving word field
request_by (word ∷ first ∷ second ∷ []) = calling word first second
request_by _ = None

unfoldable pub request_of : List ℕ → Option Request
request_of line = request_by (fields_of line)

-- amounts of moves are from 1 to 10^15, margins from 0, and what is booked is no larger
abbrev pub IsInRange : Request → Type 0
IsInRange (Allot amount) = (1 ≤ amount) × (amount ≤ 10 ^ 15)
IsInRange (Give amount) = (1 ≤ amount) × (amount ≤ 10 ^ 15)
IsInRange (Call margin booked) = (pos 0 ≤ℤ margin) × (margin ≤ℤ pos (10 ^ 15)) × (unsigned_abs booked ≤ 10 ^ 15)
