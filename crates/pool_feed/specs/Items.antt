-- A pool's feed: the lines that aren't passed over, in order, each with what it asks.
use Rattle.std.specs.Prelude.{ℕ, ◌+◌, List, [], ◌∷◌, ◌++◌, if◌then◌else◌}
use Rattle.feed_reader.specs.Line.{is_passed_over}
use Rattle.pool_feed.specs.declared.next.FedLine.{FedLine}
use Rattle.pool_feed.specs.Requests.{request_of}

-- what the line n is
abbrev pub item_at : ℕ → List ℕ → List FedLine
item_at n line = if is_passed_over line then [] else record { line = n; request = request_of line } ∷ []

-- the items of lines from number n on
unfoldable pub items_of : ℕ → List (List ℕ) → List FedLine
items_of n [] = []
items_of n (line ∷ lines) = item_at n line ++ items_of (n + 1) lines
