-- The messages of a feed: for each batch its block of records, as a batch is written, and behind it a question to the same set.
use Rattle.std.specs.Prelude.{ℕ, zero, suc, ◌+◌, ◌*◌, List, [], ◌∷◌, ◌++◌}
use Rattle.crif_writer.specs.Text.{batch_text}
use Rattle.feed_reader.specs.Feed.{Item, Sent}
use Rattle.feed_reader.specs.CsaTerms.SimmKinds.declared.margin_side.MarginSide.TheVariants.{Collect}
use Rattle.feed_reader.specs.SideEvents.declared.side_event.SideEvent.TheVariants as side
use Rattle.feed_reader.specs.declared.message.Message.TheVariants as message
use Rattle.house_sample.specs.Agreements.{set_name}
use Rattle.house_sample.specs.Trades.{batch_at, place_of, batches}

-- A batch stands in eight lines: the set's, the header and four rows, the end, and the question.
abbrev pub messages_at : ℕ → ℕ → ℕ → List Item
messages_at seed feed batch =
    let set = set_name (place_of batch) in
    Sent (record { line = 8 * batch + 1; message = message.Crif set (batch_text (batch_at seed feed batch)) })
    ∷ Sent (record { line = 8 * batch + 8; message = message.OnSide set Collect side.AskMargin })
    ∷ []

-- those of the first batches
unfoldable pub messages_to : ℕ → ℕ → ℕ → List Item
messages_to seed feed zero = []
messages_to seed feed (suc n) = messages_to seed feed n ++ messages_at seed feed n

abbrev pub messages_of : ℕ → ℕ → List Item
messages_of seed feed = messages_to seed feed batches
