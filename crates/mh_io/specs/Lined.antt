-- What a reader of lines holds, and what its calls do.
use Rattle.std.specs.Prelude.{◌≡◌, ◌≢◌, ℕ, ◌+◌, ◌≤◌, ◌<◌, List, [], ◌∷◌, ◌++◌, length, Bool, true, false, Result, Ok, Err}
use Rattle.std.specs.Io.KnownBytes.{IsAtEnd}
use Rattle.mh_io.specs.Faults.{Rises}
use Rattle.mh_io.specs.Source.{SourceSeen, Takes}
use Rattle.mh_io.specs.Lines.{LineRun, Stop, Whole, Open, Long, Over, stopped, with_lines, lines_behind}
use Rattle.mh_io.specs.Limits.{most_bytes}
use Rattle.mh_io.specs.declared.lines_answer.Supply.{Supply}
use Rattle.mh_io.specs.declared.lines_answer.Supply.TheVariants as supply
use Rattle.mh_io.specs.declared.lines_answer.LineStep.{LineStep}
use Rattle.mh_io.specs.declared.lines_answer.LineStep.TheVariants.{Line, End}
use Rattle.mh_io.specs.declared.lines_answer.LineFault.{LineFault}
use Rattle.mh_io.specs.declared.lines_answer.LineFault.TheVariants.{ReadFault, LineLong, TooLong, Memory}

-- a source, the bytes that were taken from it and not yet given as lines, how many bytes and lines were given, and
-- whether more can be taken
pub record Lined (S : Type 0) : Type 0 where
  pub source : S
  pub pending : List ℕ
  pub passed : ℕ
  pub given : ℕ
  pub supply : Supply

abbrev pub is_ended : Supply → Bool
is_ended supply.Ended = true
is_ended supply.Open = false
is_ended supply.Failed = false

-- what may still be taken: nothing after the end of input or a failure
abbrev pub CanCome : Supply → List ℕ → Bool → Type 0
CanCome supply.Open later ended = Unit {0}
CanCome supply.Ended later ended = (later ≡ []) × (ended ≡ true)
CanCome supply.Failed later ended = (later ≡ []) × (ended ≡ false)

-- the lines that come, once these bytes are taken too
abbrev pub lines_with : {S : Type 0} → Lined S → List ℕ → Bool → LineRun
lines_with held later ended = lines_behind held.passed (held.pending ++ later) ended

-- the lines of what is there now
abbrev pub lines_now : {S : Type 0} → Lined S → LineRun
lines_now held = lines_behind held.passed held.pending (is_ended held.supply)

module _ {S : Type 0} (seen : S → SourceSeen) where
  -- These bytes were taken from the source, which keeps its name and loses no fault. Each of them was given or waits, and
  -- there are no more than 33,554,433 in all. The source failed only where a fault was met, ended only where nothing is
  -- left, and isn't asked again.
  pub record Took (old new : Lined S) (taken : List ℕ) : Type 0 where
    pub takes : Takes (seen old.source) (seen new.source) taken
    pub count : (seen old.source).faults ≤ (seen new.source).faults
    pub named : (seen new.source).name ≡ (seen old.source).name
    pub total : new.passed + length new.pending ≡ old.passed + length old.pending + length taken
    pub few : old.passed + length old.pending ≤ most_bytes + 1 → new.passed + length new.pending ≤ most_bytes + 1
    pub failed : old.supply ≡ supply.Open → new.supply ≡ supply.Failed → Rises (seen old.source).faults (seen new.source).faults
    pub at_end : old.supply ≡ supply.Open → new.supply ≡ supply.Ended → IsAtEnd (seen new.source).left
    pub stays : old.supply ≢ supply.Open → new.supply ≡ old.supply
    pub rests : old.supply ≢ supply.Open → new.source ≡ old.source
    pub came : (later : List ℕ) (ended : Bool) → CanCome new.supply later ended → CanCome old.supply (taken ++ later) ended

  -- these lines were given: whatever is taken later, they stand before the lines that come then
  pub record Gave (old new : Lined S) (given : List (List ℕ)) : Type 0 where
    pub taken : List ℕ
    pub took : Took old new taken
    pub lines : (later : List ℕ) (ended : Bool) → CanCome new.supply later ended → lines_with old (taken ++ later) ended ≡ with_lines given (lines_with new later ended)
    pub count : new.given ≡ old.given + length given

-- nothing can come that changes the way the bytes stop
abbrev pub IsFinal : Supply → Stop → Type 0
IsFinal s Whole = s ≡ supply.Ended
IsFinal s Open = s ≡ supply.Failed
IsFinal s Long = Unit {0}
IsFinal s Over = Unit {0}

-- no line is left, and the bytes stop in this way for good
abbrev pub IsStopped : {S : Type 0} → Lined S → Stop → Type 0
IsStopped held stop = (lines_now held ≡ stopped stop) × IsFinal held.supply stop

-- the answer where the bytes stop
abbrev pub answer_at : Stop → Result LineStep LineFault
answer_at Whole = Ok End
answer_at Open = Err ReadFault
answer_at Long = Err LineLong
answer_at Over = Err (TooLong (most_bytes + 1))

-- the lines that an answer gives
abbrev pub lines_given : Result LineStep LineFault → List ℕ → List (List ℕ)
lines_given (Ok Line) line = line ∷ []
lines_given (Ok End) line = []
lines_given (Err fault) line = []

-- When each answer comes, by what is there after it: Memory only where a line is whole. The others but Line come only
-- where the bytes stop in their way.
abbrev pub ComesWhere : {S : Type 0} → Result LineStep LineFault → Lined S → Type 0
ComesWhere (Ok Line) new = Unit {0}
ComesWhere (Ok End) new = IsStopped new Whole
ComesWhere (Err ReadFault) new = IsStopped new Open
ComesWhere (Err LineLong) new = IsStopped new Long
ComesWhere (Err (TooLong taken)) new = IsStopped new Over × (taken ≡ most_bytes + 1)
ComesWhere (Err Memory) new = 0 < length (lines_now new).lines

-- the line is empty at each answer but Line
abbrev pub IsLineOnly : Result LineStep LineFault → List ℕ → Type 0
IsLineOnly (Ok Line) line = Unit {0}
IsLineOnly (Ok End) line = line ≡ []
IsLineOnly (Err fault) line = line ≡ []
