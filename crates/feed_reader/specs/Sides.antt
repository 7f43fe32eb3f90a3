-- Feed grammar: the fields behind the set of each word that asks for an event beside the trades, in their order, with those
-- behind them; and the side of the margin, which the last field names.
use Rattle.std.specs.Prelude.{ℕ, List, Option, Some, if◌then◌else◌}
use Rattle.side_events.specs.CsaTerms.SimmKinds.declared.margin_side.MarginSide.{MarginSide}
use Rattle.side_events.specs.CsaTerms.SimmKinds.declared.margin_side.MarginSide.TheVariants.{Collect}
use Rattle.side_events.specs.CsaTerms.Moments.{moment_of}
use Rattle.side_events.specs.declared.side_event.SideEvent.{SideEvent}
use Rattle.side_events.specs.declared.side_event.SideEvent.TheVariants as side
use Rattle.feed_reader.specs.declared.words.SideWord.{SideWord}
use Rattle.feed_reader.specs.declared.words.SideWord.TheVariants as word
use Rattle.feed_reader.specs.Fields.{◌>>=◌, first, is_nil, no_more}
use Rattle.feed_reader.specs.Values.{full_name, amount, number, lot_currency, margin_side}

-- PUT: the lot, its class, its value and its currency
unfoldable pub putting : List (List ℕ) → Option (SideEvent × List (List ℕ))
putting fields = do
  lot ← first full_name fields
  class ← first full_name lot.1
  value ← first amount class.1
  currency ← first lot_currency value.1
  Some (side.PutLot lot.0 class.0 value.0 currency.0, currency.1)

-- TAKE: the lot
unfoldable pub taking : List (List ℕ) → Option (SideEvent × List (List ℕ))
taking fields = do
  lot ← first full_name fields
  Some (side.TakeLot lot.0, lot.1)

-- MARK: the lot and its value
unfoldable pub marking : List (List ℕ) → Option (SideEvent × List (List ℕ))
marking fields = do
  lot ← first full_name fields
  value ← first amount lot.1
  Some (side.MarkLot lot.0 value.0, value.1)

-- CLOSE: the number of a call
unfoldable pub closing : List (List ℕ) → Option (SideEvent × List (List ℕ))
closing fields = do
  call ← first number fields
  Some (side.CloseCall call.0, call.1)

-- ASK: nothing
unfoldable pub question : List (List ℕ) → Option (SideEvent × List (List ℕ))
question fields = Some (side.AskMargin, fields)

-- CALL: the time of the demand
unfoldable pub demand : List (List ℕ) → Option (SideEvent × List (List ℕ))
demand fields = do
  moment ← first moment_of fields
  Some (side.AskCall moment.0, moment.1)

abbrev pub by_side_word : SideWord → List (List ℕ) → Option (SideEvent × List (List ℕ))
by_side_word word.Put = putting
by_side_word word.Take = taking
by_side_word word.Mark = marking
by_side_word word.Close = closing
by_side_word word.Ask = question
by_side_word word.Call = demand

-- the field after all others names the side; without such a field it is what is collected
unfoldable pub last_side : List (List ℕ) → Option MarginSide
last_side fields =
    if is_nil fields then Some Collect
    else (do
      named ← first margin_side fields
      end ← no_more named.1
      Some named.0)
