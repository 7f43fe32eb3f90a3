-- The notices of the calls for collateral that a run made.
-- (ISDA 2016 Credit Support Annex for Initial Margin: the demand for a Delivery Amount or a Return Amount is given to the other side.)
use Rattle.std.specs.Prelude.{List, [], ◌∷◌, ℕ}
use Rattle.std.specs.List.{flat_map}
use Rattle.csa_terms.specs.SimmKinds.declared.margin_side.MarginSide.TheVariants.{Collect}
use Rattle.feed_gate.specs.SetCore.declared.event.Event.{Event}
use Rattle.feed_gate.specs.SetCore.declared.event.Event.TheVariants as event
use Rattle.feed_gate.specs.SetCore.declared.reply.Reply.{Reply}
use Rattle.feed_gate.specs.SetCore.declared.reply.Reply.TheVariants as reply
use Rattle.feed_gate.specs.SetCore.Set.{Set}
use Rattle.call_desk.specs.declared.notice.Notice.{Notice}

-- of an event and its reply in the set of this name: one where it makes a call of what the set
-- collects, else none; a call of what it posts is the other side's demand
abbrev pub notices_by : List ℕ → Event → Reply → List Notice
notices_by name (event.OnSide Collect asked) (reply.Called note) =
    record { set = name; number = note.number; flow = note.flow; amount = note.amount; due = note.due } ∷ []
notices_by name _ _ = []

-- of a set, in the order of its journal
abbrev pub set_notices : Set → List Notice
set_notices s = flat_map (λ e. notices_by s.terms.collect.name e.event e.reply) s.journal

-- set after set
abbrev pub notices : List Set → List Notice
notices sets = flat_map set_notices sets
