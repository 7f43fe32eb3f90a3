-- How the lines of an audit file stop where it is answered so: an answer that isn't told of one entry or line is that of their end.
use Rattle.std.proofs.Common.{◌≡◌, ℕ, ◌+◌, Bool, true, false, cond, List, [], ◌∷◌, Result, Ok, Err, refl}
use Rattle.std.specs.Str.{bytes_eq}
use Rattle.mh_io.specs.Lines.{Stop, Whole, Open, Long, Over, lines}
use Rattle.audit_file.specs.declared.answer.Verdict.{Verdict}
use Rattle.audit_file.specs.declared.answer.Verdict.TheVariants.{Yes, No}
use Rattle.audit_file.specs.declared.answer.AuditFault.{AuditFault}
use Rattle.audit_file.specs.declared.answer.AuditFault.TheVariants as audit
use Rattle.audit_file.specs.Rules.{Base, Log, Ruling, Replies, NotEvent, Full}
use Rattle.audit_file.specs.Replays.{rule_of}
use Rattle.audit_file.specs.Steps.{Now, Step, Goes, Ends, Reading, Bad, Begins, Passes, Files, Tells, reading, by_ruling, judged, step, is_done, at_stop}
use Rattle.audit_file.specs.Verdict.{by_step, run}

-- how the lines stop where this is the answer: that every reply is right comes at the end of input alone
abbrev pub StopsSo : Result Verdict AuditFault → Stop → Type 0
StopsSo (Ok (Yes sets entries)) stop = stop ≡ Whole
StopsSo (Err (audit.Long line)) stop = stop ≡ Long
StopsSo (Err (audit.TooLong taken)) stop = stop ≡ Over
StopsSo _ stop = Unit {0}

-- a line ends the reading with none of these
-- (the type of a place is its own crate's)
abbrev IsOfLine : Step → Type 0
IsOfLine (Goes now) = Unit {0}
IsOfLine (Ends answer) = (stop : Stop) → StopsSo answer stop

ruling_ends : (first : ℕ) (place : _) (log : Log) (caller : ℕ) (r : Ruling) → IsOfLine (by_ruling first place log caller r)
ruling_ends first place log caller (Replies event reply) = tt
ruling_ends first place log caller NotEvent = λ stop. tt
ruling_ends first place log caller Full = λ stop. tt

module _ (base : Base) (names : List (List ℕ)) where
  line_ends : (n : ℕ) (place : _) (log : Log) (reply : List ℕ) (r : Reading) → IsOfLine (judged (rule_of base) n place log reply r)
  line_ends n place log reply Bad = λ stop. tt
  line_ends n place log reply (Begins next set) = tt
  line_ends n place log reply (Passes next) = tt
  line_ends n place log reply (Files first caller message) = ruling_ends first place log caller (rule_of base log message)
  line_ends n place log reply (Tells next text) = elim (bytes_eq text reply) as (λ b. IsOfLine (cond b (Goes (record { at = next; log = log; reply = reply })) (Ends (Ok (No place.sets place.entry))))) [
    | true ↦ tt
    | false ↦ λ stop. tt
  ]

  end_stops : (n : ℕ) (now : Now) (stop : Stop) → StopsSo (at_stop names n now.at stop) stop
  end_stops n now Whole = elim (is_done names now.at) as (λ b. StopsSo (cond b (Ok (Yes now.at.place.sets now.at.place.total)) (Err (audit.NotAudit n))) Whole) [
    | true ↦ refl
    | false ↦ tt
  ]
  end_stops n now Open = tt
  end_stops n now Long = refl
  end_stops n now Over = refl

  step_stops : (further : Now → Result Verdict AuditFault) (s : Step) (stop : Stop) → IsOfLine s → ((now : Now) → StopsSo (further now) stop) → StopsSo (by_step further s) stop
  step_stops further (Goes now) stop line rest = rest now
  step_stops further (Ends answer) stop line rest = line stop

  run_stops : (n : ℕ) (now : Now) (ls : List (List ℕ)) (stop : Stop) → StopsSo (run (rule_of base) names n now ls stop) stop
  unfolding run
  run_stops n now [] stop = end_stops n now stop
  run_stops n now (line ∷ ls) stop = step_stops (λ next. run (rule_of base) names (n + 1) next ls stop) (step (rule_of base) names n now line) stop (line_ends n now.at.place now.log now.reply (reading names n now.at line)) (λ next. run_stops (n + 1) next ls stop)

  pub answer_stops : (start_now : Now) (n : ℕ) (taken : List ℕ) (ended : Bool) → StopsSo (run (rule_of base) names n start_now (lines taken ended).lines (lines taken ended).stop) (lines taken ended).stop
  answer_stops start_now n taken ended = run_stops n start_now (lines taken ended).lines (lines taken ended).stop
