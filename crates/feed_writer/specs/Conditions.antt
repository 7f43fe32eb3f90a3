-- What a message keeps that is written so that it reads back.
use Rattle.std.specs.Prelude.{◌≡◌, ℕ, ◌<◌, ◌≤◌, ◌^◌, List, length, true, false, unsigned_abs, Some}
use Rattle.std.specs.List.{AllByRecursion}
use Rattle.feed_reader.specs.MhIo.Limits.{line_bytes}
use Rattle.feed_reader.specs.CsaTerms.SimmKinds.NameText.{is_full_name}
use Rattle.feed_reader.specs.CsaTerms.Moments.{has_date}
use Rattle.feed_reader.specs.SideEvents.declared.side_event.SideEvent.{SideEvent}
use Rattle.feed_reader.specs.SideEvents.declared.side_event.SideEvent.TheVariants as side
use Rattle.feed_reader.specs.declared.message.Message.{Message}
use Rattle.feed_reader.specs.declared.message.Message.TheVariants as message
use Rattle.feed_reader.specs.Feed.{block_of, Item, Sent, BadAt}
use Rattle.feed_reader.specs.Line.{is_end}
use Rattle.feed_reader.specs.Values.{full_names}
use Rattle.feed_writer.specs.Lines.{lines_in, IsTextLine}
use Rattle.feed_writer.specs.Messages.{withdrawal_line}

-- the text of a block: each of its lines has LF and isn't long, and none is the one that ends a block
pub record IsBlock (block : List ℕ) : Type 0 where
  pub whole : block_of (lines_in block) ≡ block
  pub lines : AllByRecursion IsTextLine (lines_in block)
  pub within : AllByRecursion (λ line. is_end line ≡ false) (lines_in block)

-- names that aren't empty, values of at most 10^15 cents, a number from 1, and a day of the years 1 to 9999
abbrev pub IsSide : SideEvent → Type 0
IsSide (side.PutLot lot class value currency) = (is_full_name lot ≡ true) × (is_full_name class ≡ true) × (unsigned_abs value ≤ 10 ^ 15)
IsSide (side.TakeLot lot) = is_full_name lot ≡ true
IsSide (side.MarkLot lot value) = (is_full_name lot ≡ true) × (unsigned_abs value ≤ 10 ^ 15)
IsSide (side.CloseCall number) = (0 < number) × (number < 2 ^ 32)
IsSide side.AskMargin = Unit {0}
IsSide (side.AskCall moment) = (has_date moment.day ≡ true) × (moment.minute < 1440)

-- of a withdrawal: at least one name, none empty, in a line that isn't long
pub record IsWithdrawal (set : List ℕ) (names : List (List ℕ)) : Type 0 where
  pub names_full : full_names names ≡ Some names
  pub short : length (withdrawal_line set names) < line_bytes

-- its set is named, and its parts are such as a feed gives
abbrev pub CanWrite : Message → Type 0
CanWrite (message.Crif set block) = (is_full_name set ≡ true) × IsBlock block
CanWrite (message.Tables set block) = (is_full_name set ≡ true) × IsBlock block
CanWrite (message.Withdraw set names) = (is_full_name set ≡ true) × IsWithdrawal set names
CanWrite (message.OnSide set s e) = (is_full_name set ≡ true) × IsSide e

-- what a feed gives: a message that can be written, or a line that is none
abbrev pub IsWritable : Item → Type 0
IsWritable (Sent fed) = CanWrite fed.message
IsWritable (BadAt line) = Unit {0}
