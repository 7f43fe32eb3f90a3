-- Feed grammar: the messages and the lines that are none, in order, and the way the bytes of a feed stop.
use Rattle.std.specs.Prelude.{◌≡◌, ℕ, zero, suc, ◌+◌, List, [], ◌∷◌, ◌++◌, length, Bool, flat_map, if◌then◌else◌}
use Rattle.std.specs.List.{list_any, before_first, position_or_len}
use Rattle.mh_io.specs.Lines as cut
use Rattle.mh_io.specs.Lines.{LineRun, lines}
use Rattle.feed_reader.specs.declared.message.Fed.{Fed}
use Rattle.feed_reader.specs.declared.message.BlockKind.{BlockKind}
use Rattle.feed_reader.specs.declared.message.Meaning.{Meaning}
use Rattle.feed_reader.specs.declared.message.Meaning.TheVariants.{Opens, Tells, Bad}
use Rattle.feed_reader.specs.Messages.{block_message}
use Rattle.feed_reader.specs.Line.{is_passed_over, meaning_of, is_end}

-- a whole message with the number of its first line, or the number of a line that is none
pub data Item : Type 0 where
  Sent : (fed : Fed) → Item
  BadAt : (line : ℕ) → Item

-- the input ended outside a block; inside the block that this line began; a line is too long; the input is; or more may come
pub data FeedStop : Type 0 where
  Whole : FeedStop
  Cut : (line : ℕ) → FeedStop
  LineLong : (line : ℕ) → FeedStop
  TooLong : FeedStop
  Open : FeedStop

pub record FeedRun : Type 0 where
  pub items : List Item
  pub stop : FeedStop

abbrev pub no_items : FeedStop → FeedRun
no_items stop = record { items = []; stop = stop }

abbrev pub with_items : List Item → FeedRun → FeedRun
with_items items run = record { items = items ++ run.items; stop = run.stop }

-- how the lines stop before the line `next`, outside a block
abbrev pub stop_outside : ℕ → cut.Stop → FeedStop
stop_outside next cut.Whole = Whole
stop_outside next cut.Open = Open
stop_outside next cut.Long = LineLong next
stop_outside next cut.Over = TooLong

-- and inside the one that the line `first` began
abbrev pub stop_inside : ℕ → ℕ → cut.Stop → FeedStop
stop_inside first next cut.Whole = Cut first
stop_inside first next cut.Open = Open
stop_inside first next cut.Long = LineLong next
stop_inside first next cut.Over = TooLong

-- lines, each with LF
abbrev pub block_of : List (List ℕ) → List ℕ
block_of lines = flat_map (λ line. line ++ 10 ∷ []) lines

-- the block of a kind and a set that begins in the line n, with the lines behind it and what those behind the block are
abbrev pub block_at : ℕ → BlockKind → List ℕ → List (List ℕ) → cut.Stop → FeedRun → FeedRun
block_at n kind set further stop rest =
    if list_any is_end further
    then with_items (Sent (record { line = n; message = block_message kind set (block_of (before_first is_end further)) }) ∷ []) rest
    else no_items (stop_inside n (n + 1 + length further) stop)

-- what the line n is, before the items of the lines behind it, and behind the block that it may begin
abbrev pub by_meaning : ℕ → Meaning → List (List ℕ) → cut.Stop → FeedRun → FeedRun → FeedRun
by_meaning n (Tells message) further stop next behind = with_items (Sent (record { line = n; message = message }) ∷ []) next
by_meaning n Bad further stop next behind = with_items (BadAt n ∷ []) next
by_meaning n (Opens kind set) further stop next behind = block_at n kind set further stop behind

-- The items of the lines from number n on, of which the first `used` lie in a block that is told already.
unfoldable pub items_of : ℕ → ℕ → List (List ℕ) → cut.Stop → FeedRun
items_of n used [] stop = no_items (stop_outside n stop)
items_of n (suc used) (line ∷ further) stop = items_of (n + 1) used further stop
items_of n zero (line ∷ further) stop =
    if is_passed_over line then items_of (n + 1) 0 further stop
    else by_meaning n (meaning_of line) further stop (items_of (n + 1) 0 further stop) (items_of (n + 1) (position_or_len is_end further + 1) further stop)

-- these lines, of which the first has the number n, are these items, each whole, whatever lines follow
pub record AreItems (n : ℕ) (lines : List (List ℕ)) (items : List Item) : Type 0 where
  pub told : (further : List (List ℕ)) (stop : cut.Stop) → items_of n 0 (lines ++ further) stop ≡ with_items items (items_of (n + length lines) 0 further stop)

-- the number of the line in which an item begins
abbrev pub line_of : Item → ℕ
line_of (Sent fed) = fed.line
line_of (BadAt line) = line

-- the items of lines from number n on
abbrev pub items_from : ℕ → LineRun → FeedRun
items_from n run = items_of n 0 run.lines run.stop

-- the feed that all taken bytes are, where `ended` says that the source gave its end of input
abbrev pub feed : List ℕ → Bool → FeedRun
feed taken ended = items_from 1 (lines taken ended)
