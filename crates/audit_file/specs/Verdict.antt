-- The verdict of an audit file.
use Rattle.std.specs.Prelude.{◌≡◌, ℕ, ◌+◌, List, [], ◌∷◌, ◌++◌, length, Bool, Result, Ok, Err}
use Rattle.mh_io.specs.Source.{SourceSeen}
use Rattle.mh_io.specs.Lines.{Stop, lines}
use Rattle.mh_io.specs.Lined.{Lined, CanCome, Took, is_ended, lines_with}
use Rattle.mh_io.specs.declared.lines_answer.Supply.{Supply}
use Rattle.mh_io.specs.declared.lines_answer.Supply.TheVariants as supply
use Rattle.feed_reader.specs.declared.message.Message.{Message}
use Rattle.audit_file.specs.declared.answer.Verdict.{Verdict}
use Rattle.audit_file.specs.declared.answer.Verdict.TheVariants.{Yes}
use Rattle.audit_file.specs.declared.answer.AuditFault.{AuditFault}
use Rattle.audit_file.specs.declared.answer.AuditFault.TheVariants as fault
use Rattle.audit_file.specs.declared.place.At.{At}
use Rattle.audit_file.specs.declared.place.Phase.TheVariants.{AtSet}
use Rattle.audit_file.specs.Rules.{Log, Ruling, begun}
use Rattle.audit_file.specs.Steps.{Now, Step, Goes, Ends, step, at_stop}

abbrev pub start_at : At
start_at = record { place = record { sets = 0; entry = 0; count = 0; total = 0 }; phase = AtSet }

-- before the first line no set of so many is begun
abbrev pub start : ℕ → Now
start sets = record { at = start_at; log = begun sets; reply = [] }

-- the answer where a line ends the reading, or else what comes behind it
abbrev pub by_step : (Now → Result Verdict AuditFault) → Step → Result Verdict AuditFault
by_step further (Goes next) = further next
by_step further (Ends answer) = answer

module _ (rule : Log → Message → Ruling) (names : List (List ℕ)) where
  -- what the lines from number n on come to
  unfoldable pub run : ℕ → Now → List (List ℕ) → Stop → Result Verdict AuditFault
  run n now [] stop = at_stop names n now.at stop
  run n now (line ∷ lines) stop = by_step (λ next. run (n + 1) next lines stop) (step rule names n now line)

  -- the verdict of all bytes that were taken, where `ended` says that the source gave its end of input
  abbrev pub verdict : List ℕ → Bool → Result Verdict AuditFault
  verdict taken ended = run 1 (start (length names)) (lines taken ended).lines (lines taken ended).stop

  -- what comes to, once these bytes are taken too
  abbrev pub comes_to : {S : Type 0} → Now → Lined S → List ℕ → Bool → Result Verdict AuditFault
  comes_to now held later ended = run (held.given + 1) now (lines_with held later ended).lines (lines_with held later ended).stop

-- where an answer rests on the end of the input, or on a failure, the source gave it
abbrev pub EndsBy : Supply → Result Verdict AuditFault → Type 0
EndsBy s (Ok (Yes sets entries)) = s ≡ supply.Ended
EndsBy s (Err fault.ReadFault) = s ≡ supply.Failed
EndsBy s answer = Unit {0}

-- an answer that stands whatever is taken later
abbrev pub StandsLater : Result Verdict AuditFault → Type 0
StandsLater (Ok verdict) = Unit {0}
StandsLater (Err (fault.NotAudit line)) = Unit {0}
StandsLater (Err (fault.Full set entry)) = Unit {0}
StandsLater (Err (fault.Long line)) = ⊥
StandsLater (Err (fault.TooLong taken)) = ⊥
StandsLater (Err fault.ReadFault) = Unit {0}
StandsLater (Err fault.Memory) = ⊥

module _ {S : Type 0} (seen : S → SourceSeen) (rule : Log → Message → Ruling) (names : List (List ℕ)) where
  -- these bytes were taken, and the answer is theirs
  pub record Settles (old new : Lined S) (answer : Result Verdict AuditFault) : Type 0 where
    pub taken : List ℕ
    pub took : Took seen old new taken
    pub ends : EndsBy new.supply answer
    pub told : comes_to rule names (start (length names)) old taken (is_ended new.supply) ≡ answer
    pub stands : StandsLater answer → (later : List ℕ) (ended : Bool) → CanCome new.supply later ended → comes_to rule names (start (length names)) old (taken ++ later) ended ≡ answer

  -- for want of memory nothing is said of the bytes that were taken
  abbrev pub Answers : Lined S → Lined S → Result Verdict AuditFault → Type 0
  Answers old new (Err fault.Memory) = (taken : List ℕ) × Took seen old new taken
  Answers old new answer = Settles old new answer
