-- What a live margin has kept after a journal: all that was worked out at the last question that was answered, but where rows
-- moved since; and nothing where tables came since.
use Rattle.std.specs.Prelude.{◌≡◌, List, [], ◌∷◌, ◌++◌, Bool, true, false, ◌&&◌, not}
use Rattle.collateral_ledger.specs.SimmKinds.declared.row.TradeRows.{TradeRows}
use Rattle.collateral_ledger.specs.SimmKinds.Batch.{rows_of}
use Rattle.bucket_cache.specs.FactorBook.declared.place.Place.{Place}
use Rattle.bucket_cache.specs.Live.{Live, named, rows_moved}
use Rattle.bucket_cache.specs.Cached.{touches, IsCached}
use Rattle.held_cell.specs.declared.entry.Entry.{Entry}
use Rattle.set_core.specs.declared.event.Event.{Event}
use Rattle.set_core.specs.declared.event.Event.TheVariants as event
use Rattle.set_core.specs.declared.reply.Reply.{Reply}
use Rattle.set_core.specs.declared.reply.Reply.TheVariants as reply
use Rattle.set_core.specs.Book.{book}

-- whether an event touches the value of a place, where it is accepted: a row lies there that it adds to a book, replaces
-- or removes, or it brings tables
abbrev pub touched_by : Place → List TradeRows → Event → Bool
touched_by place trades (event.Submit batch) = touches place (rows_moved batch trades)
touched_by place trades (event.Withdraw names) = touches place (rows_of (named names trades))
touched_by place trades (event.Tables text) = true
touched_by place trades (event.OnSide on e) = false

-- whether it changes what the margin is of: trades, or the tables
abbrev pub touches_margin : Event → Bool
touches_margin (event.Submit batch) = true
touches_margin (event.Withdraw names) = true
touches_margin (event.Tables text) = true
touches_margin (event.OnSide on e) = false

-- Whether what may be kept is kept after a reply: an accepted event leaves it where it doesn't touch it, a refused one leaves it, and a
-- question that is answered keeps it where there is something to keep.
abbrev pub is_kept : Bool → Bool → Bool → Reply → Bool
is_kept was touched there reply.Accepted = was && not touched
is_kept was touched there (reply.Refused why) = was
is_kept was touched there _ = there

-- of what there always is
abbrev pub is_known : Bool → Bool → Reply → Bool
is_known was touched r = is_kept was touched true r

-- after the entries that follow others, by what an event touches of a book
abbrev pub known_after : (List TradeRows → Event → Bool) → Bool → List (Entry Event Reply) → List (Entry Event Reply) → Bool
known_after touched was before [] = was
known_after touched was before (e ∷ after) =
    known_after touched (is_known was (touched (book before) e.event) e.reply) (before ++ e ∷ []) after

-- the margin is known: since the last question that was answered, or else from the beginning, no accepted event changed trades or
-- tables
abbrev pub is_margin_known : List (Entry Event Reply) → Bool
is_margin_known log = known_after (λ trades event. touches_margin event) true [] log

-- the value of a place is known: since then no accepted event touched it
abbrev pub is_value_known : Place → List (Entry Event Reply) → Bool
is_value_known place log = known_after (touched_by place) true [] log

-- what is known after the journal is kept
pub record AreCached (live : Live) (log : List (Entry Event Reply)) : Type 0 where
  pub fresh : is_margin_known log ≡ true → live.is_fresh ≡ true
  pub kept : (place : Place) → is_value_known place log ≡ true → IsCached place live
