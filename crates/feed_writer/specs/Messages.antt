-- The lines of a message, as a feed has them.
use Rattle.std.specs.Prelude.{ℕ, List, [], ◌∷◌, ◌++◌, flat_map, codes}
use Rattle.std.specs.Fmt.{decimal}
use Rattle.feed_reader.specs.MhUnits.Money.{money_text}
use Rattle.feed_reader.specs.CsaTerms.Moments.{moment_text}
use Rattle.feed_reader.specs.CsaTerms.SimmKinds.declared.margin_side.MarginSide.{MarginSide}
use Rattle.feed_reader.specs.CsaTerms.SimmKinds.declared.margin_side.MarginSide.TheVariants.{Collect, Post}
use Rattle.feed_reader.specs.CsaTerms.declared.lot_currency.LotCurrency.{LotCurrency}
use Rattle.feed_reader.specs.CsaTerms.declared.lot_currency.LotCurrency.TheVariants as currency
use Rattle.feed_reader.specs.SideEvents.declared.side_event.SideEvent.{SideEvent}
use Rattle.feed_reader.specs.SideEvents.declared.side_event.SideEvent.TheVariants as side
use Rattle.feed_reader.specs.declared.message.Message.{Message}
use Rattle.feed_reader.specs.declared.message.Message.TheVariants as message
use Rattle.feed_writer.specs.Lines.{lines_text, lines_in}

-- a field behind another
abbrev pub next_field : List ℕ → List ℕ
next_field field = 9 ∷ field

-- fields with a tab between
abbrev pub line_of : List (List ℕ) → List ℕ
line_of [] = []
line_of (field ∷ fields) = field ++ flat_map next_field fields

-- the word and the set, then the lines of the block, then END
abbrev pub block_lines : List ℕ → List ℕ → List ℕ → List (List ℕ)
block_lines word set block = line_of (word ∷ set ∷ []) ∷ (lines_in block ++ codes "END" ∷ [])

abbrev pub currency_word : LotCurrency → List ℕ
currency_word currency.Same = codes "same"
currency_word currency.Other = codes "other"

-- the word, the set, and what the word has beside
abbrev pub side_fields : List ℕ → SideEvent → List (List ℕ)
side_fields set (side.PutLot lot class value currency) = codes "PUT" ∷ set ∷ lot ∷ class ∷ money_text value ∷ currency_word currency ∷ []
side_fields set (side.TakeLot lot) = codes "TAKE" ∷ set ∷ lot ∷ []
side_fields set (side.MarkLot lot value) = codes "MARK" ∷ set ∷ lot ∷ money_text value ∷ []
side_fields set (side.CloseCall number) = codes "CLOSE" ∷ set ∷ decimal number ∷ []
side_fields set side.AskMargin = codes "ASK" ∷ set ∷ []
side_fields set (side.AskCall moment) = codes "CALL" ∷ set ∷ moment_text moment ∷ []

-- the posted side is named behind all else; the one that is collected is not
abbrev pub last_fields : MarginSide → List (List ℕ)
last_fields Collect = []
last_fields Post = codes "post" ∷ []

-- those of the event, and the side
abbrev pub on_side_line : List ℕ → MarginSide → SideEvent → List ℕ
on_side_line set s e = line_of (side_fields set e ++ last_fields s)

abbrev pub withdrawal_line : List ℕ → List (List ℕ) → List ℕ
withdrawal_line set names = line_of (codes "WITHDRAW" ∷ set ∷ names)

abbrev pub message_lines : Message → List (List ℕ)
message_lines (message.Crif set block) = block_lines (codes "CRIF") set block
message_lines (message.Tables set block) = block_lines (codes "TABLES") set block
message_lines (message.Withdraw set names) = withdrawal_line set names ∷ []
message_lines (message.OnSide set s e) = on_side_line set s e ∷ []

-- ---- the text

-- a line with LF
abbrev pub with_lf : List ℕ → List ℕ
with_lf line = line ++ 10 ∷ []

-- the line that opens a block, its lines, and the line that ends it
abbrev pub block_text : List ℕ → List ℕ → List ℕ → List ℕ
block_text word set block = with_lf (line_of (word ∷ set ∷ [])) ++ (lines_text (lines_in block) ++ codes "END\n")

abbrev pub message_text : Message → List ℕ
message_text (message.Crif set block) = block_text (codes "CRIF") set block
message_text (message.Tables set block) = block_text (codes "TABLES") set block
message_text (message.Withdraw set names) = with_lf (withdrawal_line set names)
message_text (message.OnSide set s e) = with_lf (on_side_line set s e)
