-- The steps within a call for the next line.
use Rattle.std.specs.Prelude.{◌≡◌, ℕ, ◌+◌, ◌-◌, ◌≤◌, ◌<◌, List, ◌∷◌, ◌++◌, length, take, drop, false, Option, Some, None, Result, Ok, Err}
use Rattle.std.specs.List.{All}
use Rattle.mh_io.specs.Source.{SourceSeen}
use Rattle.mh_io.specs.Lines.{is_lf, stopped, Long, Over}
use Rattle.mh_io.specs.Lined.{Lined, Took, lines_now}
use Rattle.mh_io.specs.Limits.{most_bytes, line_bytes}
use Rattle.mh_io.specs.declared.lines_answer.Supply.{Supply}
use Rattle.mh_io.specs.declared.lines_answer.Supply.TheVariants as supply
use Rattle.mh_io.specs.declared.lines_answer.LineFault.{LineFault}
use Rattle.mh_io.specs.declared.lines_answer.LineFault.TheVariants.{ReadFault, LineLong, TooLong, Memory}
use Rattle.mh_io.specs.declared.lines_answer.Front.{Front}
use Rattle.mh_io.specs.declared.lines_answer.Front.TheVariants.{Line, Last}

abbrev pub HasNoLf : List ℕ → Type 0
HasNoLf bytes = All (λ b. is_lf b ≡ false) bytes

-- the bytes begin with a line of this length and its LF
pub record BeginsLine (passed : ℕ) (pending : List ℕ) (count : ℕ) : Type 0 where
  pub text : HasNoLf (take count pending)
  pub lf : pending ≡ take count pending ++ 10 ∷ drop (count + 1) pending
  pub short : count < line_bytes
  pub near : passed + count < most_bytes
  pub there : count < length pending

-- the bytes are the front of a line, or all of the last one
pub record IsPart (passed : ℕ) (pending : List ℕ) : Type 0 where
  pub text : HasNoLf pending
  pub short : length pending < line_bytes
  pub near : passed + length pending ≤ most_bytes

-- what stands at the front, or that more is wanted to tell
abbrev pub Shows : {S : Type 0} → Lined S → Result (Option Front) LineFault → Type 0
Shows held (Ok (Some (Line count))) = BeginsLine held.passed held.pending count
Shows held (Ok (Some Last)) = IsPart held.passed held.pending × (held.supply ≡ supply.Ended)
Shows held (Ok None) = IsPart held.passed held.pending × (held.supply ≡ supply.Open)
Shows held (Err ReadFault) = IsPart held.passed held.pending × (held.supply ≡ supply.Failed)
Shows held (Err LineLong) = lines_now held ≡ stopped Long
Shows held (Err (TooLong taken)) = (lines_now held ≡ stopped Over) × (taken ≡ most_bytes + 1)
Shows held (Err Memory) = ⊥

-- the same, where it is told
abbrev pub Reached : {S : Type 0} → Lined S → Result Front LineFault → Type 0
Reached held (Ok front) = Shows held (Ok (Some front))
Reached held (Err fault) = Shows held (Err fault)

abbrev pub open_turn : Supply → ℕ
open_turn supply.Open = 1
open_turn supply.Ended = 0
open_turn supply.Failed = 0

-- how often more can be taken before something stands at the front
abbrev pub turns_left : {S : Type 0} → Lined S → ℕ
turns_left held = (line_bytes - length held.pending) + open_turn held.supply

module _ {S : Type 0} (seen : S → SourceSeen) where
  -- these bytes were taken and wait behind the others; no line was given
  pub record TookMore (old new : Lined S) : Type 0 where
    pub taken : List ℕ
    pub took : Took seen old new taken
    pub pending : new.pending ≡ old.pending ++ taken
    pub passed : new.passed ≡ old.passed
    pub given : new.given ≡ old.given

-- the next bytes were given as a line
abbrev pub past : {S : Type 0} → Lined S → ℕ → Lined S
past held count = record { source = held.source; pending = drop count held.pending; passed = held.passed + count; given = held.given + 1; supply = held.supply }
