-- How much of a text a sink got.
use Rattle.std.specs.Prelude.{ℕ, ◌≡◌, ◌<◌, ◌≤◌, List, length, take}
use Rattle.std.specs.Io.KnownBytes.{append_known}
use Rattle.mh_io.specs.Faults.{Rises}
use Rattle.mh_io.specs.Sink.{SinkSeen, BreaksOff}
use Rattle.command_files.specs.declared.status.Status.{Status}
use Rattle.command_files.specs.declared.status.Status.TheVariants as status

-- the sink got the whole text
abbrev pub Got : SinkSeen → SinkSeen → List ℕ → Type 0
Got old new text = new.holds ≡ append_known old.holds text

-- the sink failed before it had the whole text
pub record GotFront (old new : SinkSeen) (text : List ℕ) : Type 0 where
  pub put : ℕ
  pub breaks : BreaksOff old new text put
  pub rose : Rises old.faults new.faults

-- what printing a text does, by its status
abbrev pub Prints : List ℕ → SinkSeen → SinkSeen → Status → Type 0
Prints text old new status.Done = Got old new text
Prints text old new status.Write = GotFront old new text
Prints text old new _ = ⊥

-- the sink got the text, or a front of it where its count of faults rose
pub record GotLine (old new : SinkSeen) (text : List ℕ) : Type 0 where
  pub put : ℕ
  pub front : Got old new (take put text)
  pub within : put ≤ length text
  pub cut : put < length text → Rises old.faults new.faults
