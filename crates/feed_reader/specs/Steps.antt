-- The steps within a call for the next message.
use Rattle.std.specs.Prelude.{◌≡◌, ℕ, ◌+◌, ◌≤◌, List, [], ◌∷◌, ◌++◌, length, true, false, Option, Some, None, Result, Ok, Err}
use Rattle.std.specs.List.{All}
use Rattle.mh_io.specs.Source.{SourceSeen}
use Rattle.mh_io.specs.Lines as cut
use Rattle.mh_io.specs.Lined.{Lined, Gave, IsStopped, lines_given}
use Rattle.mh_io.specs.declared.lines_answer.LineStep.{LineStep}
use Rattle.mh_io.specs.declared.lines_answer.LineStep.TheVariants.{Line, End}
use Rattle.mh_io.specs.declared.lines_answer.LineFault.{LineFault}
use Rattle.mh_io.specs.declared.lines_answer.LineFault.TheVariants as line_fault
use Rattle.mh_io.specs.Limits.{most_bytes}
use Rattle.feed_reader.specs.declared.message.Fed.{Fed}
use Rattle.feed_reader.specs.declared.fault.FeedFault.{FeedFault}
use Rattle.feed_reader.specs.declared.fault.FeedFault.TheVariants as fault
use Rattle.feed_reader.specs.Line.{is_passed_over, is_end, IsBegun}
use Rattle.feed_reader.specs.Feed.{Sent, BadAt, Cut, LineLong, TooLong, Open, AreItems, no_items, items_of, block_of}

abbrev pub ArePassed : List (List ℕ) → Type 0
ArePassed lines = All (λ line. is_passed_over line ≡ true) lines

abbrev pub AreInside : List (List ℕ) → Type 0
AreInside lines = All (λ line. is_end line ≡ false) lines

-- the lines stop for good at each answer but a line and want of memory
abbrev pub StopsAt : {S : Type 0} → Result LineStep LineFault → Lined S → Type 0
StopsAt (Ok Line) new = Unit {0}
StopsAt (Ok End) new = IsStopped new cut.Whole
StopsAt (Err line_fault.ReadFault) new = IsStopped new cut.Open
StopsAt (Err line_fault.LineLong) new = IsStopped new cut.Long
StopsAt (Err (line_fault.TooLong taken)) new = IsStopped new cut.Over × (taken ≡ most_bytes + 1)
StopsAt (Err line_fault.Memory) new = Unit {0}

-- a line's fault as one of the feed: the long line is the next one, and memory was wanted for the message of the line `first`
abbrev pub feed_fault : LineFault → ℕ → ℕ → FeedFault
feed_fault line_fault.ReadFault next first = fault.ReadFault
feed_fault line_fault.LineLong next first = fault.LineLong next
feed_fault (line_fault.TooLong taken) next first = fault.TooLong taken
feed_fault line_fault.Memory next first = fault.Memory first

module _ {S : Type 0} (seen : S → SourceSeen) where
  -- lines that are passed over were given, and then this answer
  pub record Skips (old new : Lined S) (answer : Result LineStep LineFault) (line : List ℕ) : Type 0 where
    pub passed : List (List ℕ)
    pub over : ArePassed passed
    pub lines : Gave seen old new (passed ++ lines_given answer line)

  -- lines within a block were given, and then this answer: a line is the last one, which ends the block
  pub record Encloses (old new : Lined S) (answer : Result LineStep LineFault) (before after : List ℕ) : Type 0 where
    pub inside : List (List ℕ)
    pub within : AreInside inside
    pub last : List ℕ
    pub ends : answer ≡ Ok Line → is_end last ≡ true
    pub lines : Gave seen old new (inside ++ lines_given answer last)
    pub block : answer ≡ Ok Line → after ≡ before ++ block_of inside

-- what these lines mean, of which the first is no line that is passed over and has the number n
abbrev pub Means : {S : Type 0} → ℕ → List (List ℕ) → Lined S → Result (Option Fed) FeedFault → Type 0
Means n lines new (Ok (Some fed)) = AreItems n lines (Sent fed ∷ []) × (fed.line ≡ n) × (new.given ≤ most_bytes)
Means n lines new (Ok None) = ⊥
Means n lines new (Err (fault.BadLine line)) = AreItems n lines (BadAt line ∷ []) × (line ≡ n) × (length lines ≡ 1) × (new.given ≤ most_bytes)
Means n lines new (Err (fault.Cut line)) = (items_of n 0 lines cut.Whole ≡ no_items (Cut line)) × IsStopped new cut.Whole × (line ≡ n)
Means n lines new (Err (fault.LineLong line)) = (items_of n 0 lines cut.Long ≡ no_items (LineLong line)) × IsStopped new cut.Long × (line ≡ n + length lines)
Means n lines new (Err (fault.TooLong taken)) = (items_of n 0 lines cut.Over ≡ no_items TooLong) × IsStopped new cut.Over × (taken ≡ most_bytes + 1)
Means n lines new (Err fault.ReadFault) = (items_of n 0 lines cut.Open ≡ no_items Open) × IsStopped new cut.Open
Means n lines new (Err (fault.Memory line)) = (line ≡ n) × IsBegun lines

module _ {S : Type 0} (seen : S → SourceSeen) where
  -- further lines were given, and mean this together with the line that was given before
  pub record Tells (old new : Lined S) (line : List ℕ) (answer : Result (Option Fed) FeedFault) : Type 0 where
    pub further : List (List ℕ)
    pub lines : Gave seen old new further
    pub means : Means old.given (line ∷ further) new answer
