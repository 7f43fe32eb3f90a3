-- Feed grammar: the fields behind the word of each message, in their order; no other field stands behind them.
use Rattle.std.specs.Prelude.{ℕ, List, Option, Some}
use Rattle.feed_reader.specs.declared.message.BlockKind.{BlockKind}
use Rattle.feed_reader.specs.declared.message.BlockKind.TheVariants as block
use Rattle.feed_reader.specs.declared.message.Message.{Message}
use Rattle.feed_reader.specs.declared.message.Message.TheVariants as message
use Rattle.feed_reader.specs.declared.message.Meaning.{Meaning}
use Rattle.feed_reader.specs.declared.message.Meaning.TheVariants.{Opens, Tells}
use Rattle.feed_reader.specs.declared.words.SideWord.{SideWord}
use Rattle.feed_reader.specs.declared.words.Word.{Word}
use Rattle.feed_reader.specs.declared.words.Word.TheVariants as word
use Rattle.feed_reader.specs.Fields.{◌>>=◌, first, no_more}
use Rattle.feed_reader.specs.Values.{full_name, full_names}
use Rattle.feed_reader.specs.Sides.{by_side_word, last_side}

-- the set, whose block of this kind begins
unfoldable pub opening : BlockKind → List (List ℕ) → Option Meaning
opening kind fields = do
  set ← first full_name fields
  end ← no_more set.1
  Some (Opens kind set.0)

-- the message that a block of a set is
abbrev pub block_message : BlockKind → List ℕ → List ℕ → Message
block_message block.Crif set lines = message.Crif set lines
block_message block.Tables set lines = message.Tables set lines

-- WITHDRAW: the set, and at least one trade
unfoldable pub withdrawal : List (List ℕ) → Option Meaning
withdrawal fields = do
  set ← first full_name fields
  names ← full_names set.1
  Some (Tells (message.Withdraw set.0 names))

-- the set, the event, and the side
unfoldable pub on_side : SideWord → List (List ℕ) → Option Meaning
on_side word fields = do
  set ← first full_name fields
  event ← by_side_word word set.1
  side ← last_side event.1
  Some (Tells (message.OnSide set.0 side event.0))

-- the fields behind each word
abbrev pub by_word : Word → List (List ℕ) → Option Meaning
by_word word.Crif = opening block.Crif
by_word word.Tables = opening block.Tables
by_word word.Withdraw = withdrawal
by_word (word.Side of) = on_side of
