-- A written message reads back.
use Rattle.std.specs.Prelude.{◌≡◌, ℕ, ◌+◌, ◌≤◌, List, [], ◌∷◌, ◌++◌, length, Bool}
use Rattle.feed_reader.specs.MhIo.Limits.{most_bytes}
use Rattle.feed_reader.specs.MhIo.Lines.{with_lines, lines_behind}
use Rattle.feed_reader.specs.declared.message.Message.{Message}
use Rattle.feed_reader.specs.Feed.{AreItems, Sent}
use Rattle.feed_writer.specs.Messages.{message_lines, message_text}

-- Wherever its text stands in a feed, within the bytes that are read, it is cut into just its lines, whatever bytes follow, and
-- these are the message and nothing else, whatever lines follow.
pub record ReadsBack (m : Message) : Type 0 where
  pub cut : (passed : ℕ) (further : List ℕ) (ended : Bool) → passed + length (message_text m) ≤ most_bytes → lines_behind passed (message_text m ++ further) ended ≡ with_lines (message_lines m) (lines_behind (passed + length (message_text m)) further ended)
  pub items : (n : ℕ) → AreItems n (message_lines m) (Sent (record { line = n; message = m }) ∷ [])
