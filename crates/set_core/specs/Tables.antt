-- The tables of a netting set after a journal: those that the last accepted entry brings which brings any.
use Rattle.std.specs.Prelude.{List, [], ◌∷◌, if◌then◌else◌}
use Rattle.bucket_cache.specs.SimmRules.Params.{Params}
use Rattle.held_cell.specs.declared.entry.Entry.{Entry}
use Rattle.set_core.specs.declared.event.Event.{Event}
use Rattle.set_core.specs.declared.event.Event.TheVariants as event
use Rattle.set_core.specs.declared.reply.Reply.{Reply}
use Rattle.set_core.specs.Book.{is_accepted}

-- the tables that an event brings, or else those that there were
abbrev pub tables_of_event : Params → Event → Params
tables_of_event p (event.Submit trades) = p
tables_of_event p (event.Withdraw names) = p
tables_of_event p (event.Tables text) = text.params
tables_of_event p (event.OnSide on e) = p

-- a refused entry brings none
abbrev pub tables_with : Params → Entry Event Reply → Params
tables_with p e = if is_accepted e.reply then tables_of_event p e.event else p

-- those that the journal opens with stand where no accepted entry brings others
abbrev pub tables : Params → List (Entry Event Reply) → Params
tables p [] = p
tables p (e ∷ log) = tables (tables_with p e) log
