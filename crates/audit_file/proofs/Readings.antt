-- Lines that are read one after another: how far the reading came says what is still to come.
use Rattle.std.proofs.Common.{◌≡◌, ℕ, ◌+◌, Bool, true, false, cond, List, [], ◌∷◌, ◌++◌, Result, Ok, Err, length, refl, sym, ap, ◌∙◌, subst, arith, append_assoc}
use Rattle.std.specs.Str.{bytes_eq}
use Rattle.std.proofs.lemmas.List.{append-nil}
use Rattle.mh_io.specs.Source.{SourceSeen}
use Rattle.mh_io.specs.Lines.{LineRun, Stop, Whole, Open, Long, Over, stopped, lines_behind}
use Rattle.mh_io.specs.Lined.{Lined, CanCome, Took, Gave, IsStopped, ComesWhere, is_ended, lines_with, lines_now}
use Rattle.mh_io.specs.declared.lines_answer.Supply.{Supply}
use Rattle.mh_io.specs.declared.lines_answer.Supply.TheVariants as supply
use Rattle.mh_io.specs.declared.lines_answer.LineFault.{LineFault}
use Rattle.mh_io.specs.declared.lines_answer.LineFault.TheVariants as line_fault
use Rattle.feed_reader.proofs.FeedTakings.{can_stop, then_took, gave_none}
use Rattle.feed_reader.specs.declared.message.Message.{Message}
use Rattle.audit_file.specs.declared.answer.Verdict.{Verdict}
use Rattle.audit_file.specs.declared.answer.Verdict.TheVariants.{Yes, No}
use Rattle.audit_file.specs.declared.answer.AuditFault.{AuditFault}
use Rattle.audit_file.specs.declared.answer.AuditFault.TheVariants as fault
use Rattle.audit_file.specs.declared.place.Place.{Place}
use Rattle.audit_file.specs.declared.place.At.{At}
use Rattle.audit_file.specs.Rules.{Log, Ruling, Replies, NotEvent, Full}
use Rattle.audit_file.specs.Steps.{Now, Goes, Ends, Reading, Bad, Begins, Passes, Files, Tells, by_ruling, judged, reading, step, is_done, at_stop, audit_fault}
use Rattle.audit_file.specs.Verdict.{start, by_step, run, comes_to, StandsLater, Settles, Answers, EndsBy}

-- nothing more comes where the lines stopped for good
late_whole : {S : Type 0} (held : Lined S) (later : List ℕ) (ended : Bool) → held.supply ≡ supply.Ended → CanCome held.supply later ended → lines_with held later ended ≡ lines_now held
late_whole held later ended is can =
    let none : CanCome supply.Ended later ended = subst (λ s. CanCome s later ended) is can in
    ap (λ xs. lines_with held xs ended) none.0
    ∙ (ap (λ e. lines_with held [] e) (none.1 ∙ sym (ap is_ended is)) ∙ ap (λ xs. lines_behind held.passed xs (is_ended held.supply)) (append-nil held.pending))

late_open : {S : Type 0} (held : Lined S) (later : List ℕ) (ended : Bool) → held.supply ≡ supply.Failed → CanCome held.supply later ended → lines_with held later ended ≡ lines_now held
late_open held later ended is can =
    let none : CanCome supply.Failed later ended = subst (λ s. CanCome s later ended) is can in
    ap (λ xs. lines_with held xs ended) none.0
    ∙ (ap (λ e. lines_with held [] e) (none.1 ∙ sym (ap is_ended is)) ∙ ap (λ xs. lines_behind held.passed xs (is_ended held.supply)) (append-nil held.pending))

module _ (rule : Log → Message → Ruling) (names : List (List ℕ)) where
  pub run_goes : (n : ℕ) (now next : Now) (line : List ℕ) (lines : List (List ℕ)) (stop : Stop) → step rule names n now line ≡ Goes next → run rule names n now (line ∷ lines) stop ≡ run rule names (n + 1) next lines stop
  unfolding run
  run_goes n now next line lines stop e = ap (by_step (λ then. run rule names (n + 1) then lines stop)) e

  pub run_ends : (n : ℕ) (now : Now) (line : List ℕ) (lines : List (List ℕ)) (stop : Stop) (answer : Result Verdict AuditFault) → step rule names n now line ≡ Ends answer → run rule names n now (line ∷ lines) stop ≡ answer
  unfolding run
  run_ends n now line lines stop answer e = ap (by_step (λ then. run rule names (n + 1) then lines stop)) e

  pub run_stops : (n : ℕ) (now : Now) (stop : Stop) → run rule names n now [] stop ≡ at_stop names n now.at stop
  unfolding run
  run_stops n now stop = refl

-- ---- what ends the reading rests on no end of the input

ends_so : (s : Supply) (a b : Result Verdict AuditFault) → EndsBy s a → Ends a ≡ Ends b → EndsBy s b
ends_so s a b ends is = let same : a ≡ b = cc is in subst (EndsBy s) same ends

ruling_ends : (o : Ruling) (s : Supply) (first : ℕ) (place : Place) (log : Log) (caller : ℕ) (answer : Result Verdict AuditFault) → by_ruling first place log caller o ≡ Ends answer → EndsBy s answer
ruling_ends (Replies event reply) s first place log caller answer is = cc is
ruling_ends NotEvent s first place log caller answer is = ends_so s (Err (fault.NotAudit first)) answer tt is
ruling_ends Full s first place log caller answer is = ends_so s (Err (fault.Full place.sets place.entry)) answer tt is

reply_ends : (same : Bool) (s : Supply) (next : Now) (set entry : ℕ) (answer : Result Verdict AuditFault) → cond same (Goes next) (Ends (Ok (No set entry))) ≡ Ends answer → EndsBy s answer
reply_ends true s next set entry answer is = cc is
reply_ends false s next set entry answer is = ends_so s (Ok (No set entry)) answer tt is

line_rests : (rule : Log → Message → Ruling) (r : Reading) (s : Supply) (n : ℕ) (place : Place) (log : Log) (reply : List ℕ) (answer : Result Verdict AuditFault) → judged rule n place log reply r ≡ Ends answer → EndsBy s answer
line_rests rule Bad s n place log reply answer is = ends_so s (Err (fault.NotAudit n)) answer tt is
line_rests rule (Begins next set) s n place log reply answer is = cc is
line_rests rule (Passes next) s n place log reply answer is = cc is
line_rests rule (Files first caller message) s n place log reply answer is = ruling_ends (rule log message) s first place log caller answer is
line_rests rule (Tells next text) s n place log reply answer is =
    reply_ends (bytes_eq text reply) s (record { at = next; log = log; reply = reply }) place.sets place.entry answer is

-- and the end itself on what the source gave
stop_ends : {S : Type 0} (held : Lined S) (stop : Stop) (names : List (List ℕ)) (n : ℕ) (at : At) → IsStopped held stop → EndsBy held.supply (at_stop names n at stop)
stop_ends held Whole names n at is = elim (is_done names at) as (λ b. EndsBy held.supply (cond b (Ok (Yes at.place.sets at.place.total)) (Err (fault.NotAudit n)))) [ true ↦ is.1 | false ↦ tt ]
stop_ends held Open names n at is = is.1
stop_ends held Long names n at is = tt
stop_ends held Over names n at is = tt

module _ {S : Type 0} (seen : S → SourceSeen) (rule : Log → Message → Ruling) (names : List (List ℕ)) where
  -- what all lines come to is what those come to that aren't given yet
  pub record Comes (first held : Lined S) (now : Now) : Type 0 where
    pub taken : List ℕ
    pub took : Took seen first held taken
    pub rest : (later : List ℕ) (ended : Bool) → CanCome held.supply later ended → comes_to rule names (start (length names)) first (taken ++ later) ended ≡ comes_to rule names now held later ended

  pub comes_first : (first : Lined S) → Comes first first (start (length names))
  comes_first first = let none = gave_none seen first in record { taken = none.taken; took = none.took; rest = λ later ended can. ap (λ (r : LineRun). run rule names (first.given + 1) (start (length names)) r.lines r.stop) (none.lines later ended can) }

  -- what comes behind lines that were given
  behind_given : {a b c : Lined S} {now : Now} (so_far : Comes a b now) (lines : List (List ℕ)) (given : Gave seen b c lines) (later : List ℕ) (ended : Bool) → CanCome c.supply later ended → comes_to rule names (start (length names)) a ((so_far.taken ++ given.taken) ++ later) ended ≡ run rule names (b.given + 1) now (lines ++ (lines_with c later ended).lines) (lines_with c later ended).stop
  behind_given {a} {b} {c} {now} so_far lines given later ended can =
      ap (λ xs. comes_to rule names (start (length names)) a xs ended) (append_assoc so_far.taken given.taken later)
      ∙ (so_far.rest (given.taken ++ later) ended (given.took.came later ended can)
      ∙ ap (λ (r : LineRun). run rule names (b.given + 1) now r.lines r.stop) (given.lines later ended can))

  pub goes_on : {a b c : Lined S} {now next : Now} (n : ℕ) (line : List ℕ) → Comes a b now → Gave seen b c (line ∷ []) → n ≡ c.given → step rule names n now line ≡ Goes next → Comes a c next
  goes_on {a} {b} {c} {now} {next} n line so_far given number e = record {
    taken = so_far.taken ++ given.taken;
    took = then_took seen so_far.took given.took;
    rest = λ later ended can.
        let run_now = lines_with c later ended in
        let here : b.given + 1 ≡ n = omega (arith, given.count) in
        behind_given so_far (line ∷ []) given later ended can
        ∙ (ap (λ k. run rule names k now (line ∷ run_now.lines) run_now.stop) here
        ∙ (run_goes rule names n now next line run_now.lines run_now.stop e
        ∙ ap (λ k. run rule names (k + 1) next run_now.lines run_now.stop) number));
  }

  -- an answer to what was taken, where it stands whatever comes later
  stands_now : (a c : Lined S) (taken : List ℕ) (answer : Result Verdict AuditFault) → ((later : List ℕ) (ended : Bool) → CanCome c.supply later ended → comes_to rule names (start (length names)) a (taken ++ later) ended ≡ answer) → comes_to rule names (start (length names)) a taken (is_ended c.supply) ≡ answer
  stands_now a c taken answer all =
      ap (λ xs. comes_to rule names (start (length names)) a xs (is_ended c.supply)) (sym (append-nil taken)) ∙ all [] (is_ended c.supply) (can_stop c.supply)

  pub line_ends : {a b c : Lined S} {now : Now} (n : ℕ) (line : List ℕ) (answer : Result Verdict AuditFault) → Comes a b now → Gave seen b c (line ∷ []) → n ≡ c.given → step rule names n now line ≡ Ends answer → Settles seen rule names a c answer
  line_ends {a} {b} {c} {now} n line answer so_far given number e =
      let all = λ (later : List ℕ) (ended : Bool) (can : CanCome c.supply later ended).
      let run_now = lines_with c later ended in
      let here : b.given + 1 ≡ n = omega (arith, given.count) in
      behind_given so_far (line ∷ []) given later ended can
      ∙ (ap (λ k. run rule names k now (line ∷ run_now.lines) run_now.stop) here
      ∙ run_ends rule names n now line run_now.lines run_now.stop answer e) in
      record {
        taken = so_far.taken ++ given.taken;
        took = then_took seen so_far.took given.took;
        ends = line_rests rule (reading names n now.at line) c.supply n now.at.place now.log now.reply answer e;
        told = stands_now a c (so_far.taken ++ given.taken) answer all;
        stands = λ _. all;
      }

  -- where no line was given, and none is left
  at_rest : {a b c : Lined S} {now : Now} (stop : Stop) (so_far : Comes a b now) (given : Gave seen b c []) (later : List ℕ) (ended : Bool) → CanCome c.supply later ended → lines_with c later ended ≡ stopped stop → comes_to rule names (start (length names)) a ((so_far.taken ++ given.taken) ++ later) ended ≡ at_stop names (c.given + 1) now.at stop
  at_rest {a} {b} {c} {now} stop so_far given later ended can none =
      let here : b.given ≡ c.given = omega (arith, given.count) in
      behind_given so_far [] given later ended can
      ∙ (ap (λ (r : LineRun). run rule names (b.given + 1) now r.lines r.stop) none
      ∙ (ap (λ k. run rule names (k + 1) now [] stop) here ∙ run_stops rule names (c.given + 1) now stop))

  -- it stands later too, where nothing more can come
  later_too : {a b c : Lined S} {now : Now} (stop : Stop) (so_far : Comes a b now) (given : Gave seen b c []) → IsStopped c stop → StandsLater (at_stop names (c.given + 1) now.at stop) → (later : List ℕ) (ended : Bool) → CanCome c.supply later ended → comes_to rule names (start (length names)) a ((so_far.taken ++ given.taken) ++ later) ended ≡ at_stop names (c.given + 1) now.at stop
  later_too {a} {b} {c} Whole so_far given is_stopped _ later ended can = at_rest Whole so_far given later ended can (late_whole c later ended is_stopped.1 can ∙ is_stopped.0)
  later_too {a} {b} {c} Open so_far given is_stopped _ later ended can = at_rest Open so_far given later ended can (late_open c later ended is_stopped.1 can ∙ is_stopped.0)
  later_too {a} {b} {c} Long so_far given is_stopped never later ended can = absurd never
  later_too {a} {b} {c} Over so_far given is_stopped never later ended can = absurd never

  pub lines_stop : {a b c : Lined S} {now : Now} (stop : Stop) → Comes a b now → Gave seen b c [] → IsStopped c stop → Settles seen rule names a c (at_stop names (c.given + 1) now.at stop)
  lines_stop {a} {b} {c} {now} stop so_far given is_stopped =
      let ended = is_ended c.supply in
      let none : lines_with c [] ended ≡ stopped stop = ap (λ xs. lines_behind c.passed xs ended) (append-nil c.pending) ∙ is_stopped.0 in
      record {
        taken = so_far.taken ++ given.taken;
        took = then_took seen so_far.took given.took;
        ends = stop_ends c stop names (c.given + 1) now.at is_stopped;
        told = ap (λ xs. comes_to rule names (start (length names)) a xs ended) (sym (append-nil (so_far.taken ++ given.taken))) ∙ at_rest stop so_far given [] ended (can_stop c.supply) none;
        stands = later_too stop so_far given is_stopped;
      }

  pub answers : {a c : Lined S} (answer : Result Verdict AuditFault) → Settles seen rule names a c answer → Answers seen rule names a c answer
  answers (Ok verdict) is = is
  answers (Err (fault.NotAudit line)) is = is
  answers (Err (fault.Full set entry)) is = is
  answers (Err (fault.Long line)) is = is
  answers (Err (fault.TooLong taken)) is = is
  answers (Err fault.ReadFault) is = is
  answers (Err fault.Memory) is = (is.taken, is.took)

  -- memory ran out at a line, or before it was given
  pub stopped_short : {a b c : Lined S} {now : Now} (lines : List (List ℕ)) → Comes a b now → Gave seen b c lines → Answers seen rule names a c (Err fault.Memory)
  stopped_short lines so_far given = (so_far.taken ++ given.taken, then_took seen so_far.took given.took)

  -- or before any was read
  pub never_read : (held : Lined S) → Answers seen rule names held held (Err fault.Memory)
  never_read held = let none = gave_none seen held in (none.taken, none.took)

  pub fault_answers : {a b c : Lined S} {now : Now} (f : LineFault) (n : ℕ) → Comes a b now → Gave seen b c [] → ComesWhere (Err f) c → n ≡ c.given + 1 → Answers seen rule names a c (Err (audit_fault f n))
  fault_answers {a} {b} {c} line_fault.ReadFault n so_far given where_ number = lines_stop Open so_far given where_
  fault_answers {a} {b} {c} line_fault.LineLong n so_far given where_ number = rw number (lines_stop Long so_far given where_)
  fault_answers {a} {b} {c} (line_fault.TooLong taken) n so_far given where_ number = rw where_.1 (lines_stop Over so_far given where_.0)
  fault_answers {a} {b} {c} line_fault.Memory n so_far given where_ number = stopped_short [] so_far given
