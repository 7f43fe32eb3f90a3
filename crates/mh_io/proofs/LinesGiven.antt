-- What giving a line, or a fault, means for the lines of all that is taken.
use Rattle.std.proofs.Common.{◌≡◌, ℕ, ◌+◌, ◌<◌, ◌≤◌, Bool, true, false, List, [], ◌∷◌, ◌++◌, Err, length, take, drop, refl, sym, ap, ◌∙◌, arith, append_assoc}
use Rattle.std.proofs.lemmas.List.{append-nil, length-take-le, length-drop, drop_all}
use Rattle.std.proofs.lemmas.List.Elements.{All-nil}
use Rattle.mh_io.specs.Source.{SourceSeen}
use Rattle.mh_io.specs.Lines.{LineRun, Stop, Whole, Open, Long, Over, stopped, with_lines, is_lf, lines_behind, without_cr}
use Rattle.mh_io.specs.Lined.{Lined, Took, Gave, IsStopped, ComesWhere, answer_at, is_ended, lines_with, lines_now}
use Rattle.mh_io.specs.LinesSteps.{BeginsLine, IsPart, TookMore, Shows, past}
use Rattle.mh_io.specs.Limits.{most_bytes, line_bytes}
use Rattle.mh_io.specs.declared.lines_answer.Supply.TheVariants as supply
use Rattle.mh_io.specs.declared.lines_answer.LineFault.{LineFault}
use Rattle.mh_io.specs.declared.lines_answer.LineFault.TheVariants.{ReadFault, LineLong, TooLong, Memory}
use Rattle.mh_io.proofs.LinesRuns.{line_run, part_run}
use Rattle.mh_io.proofs.LinesStops.{failed_stop}

-- a line stands at the front, whatever follows
line_with : (passed count : ℕ) (pending later : List ℕ) (ended : Bool) → BeginsLine passed pending count → lines_behind passed (pending ++ later) ended ≡ with_lines (without_cr (take count pending) ∷ []) (lines_behind (passed + (count + 1)) (drop (count + 1) pending ++ later) ended)
line_with passed count pending later ended begins =
    let text = take count pending in
    let there = begins.there in
    let long : length text ≡ count = length-take-le count pending (omega arith) in
    let short : length text < line_bytes = rw long begins.short in
    let near : passed + length text < most_bytes = rw long begins.near in
    let all : pending ++ later ≡ text ++ 10 ∷ (drop (count + 1) pending ++ later) =
    ap (λ xs. xs ++ later) begins.lf ∙ append_assoc text (10 ∷ drop (count + 1) pending) later in
    ap (λ xs. lines_behind passed xs ended) all
    ∙ (line_run passed text (drop (count + 1) pending ++ later) ended begins.text short near
    ∙ ap (λ k. with_lines (without_cr text ∷ []) (lines_behind (passed + (k + 1)) (drop (count + 1) pending ++ later) ended)) long)

-- there is a line now
pub line_now : {S : Type 0} (held : Lined S) (count : ℕ) → BeginsLine held.passed held.pending count → (line : List ℕ) × (run : LineRun) × (lines_now held ≡ with_lines (line ∷ []) run)
line_now held count begins =
    (without_cr (take count held.pending), _, ap (λ xs. lines_behind held.passed xs (is_ended held.supply)) (sym (append-nil held.pending)) ∙ line_with held.passed count held.pending [] (is_ended held.supply) begins)

-- where nothing is left, the run of it
nothing_left : (passed : ℕ) → passed ≤ most_bytes → lines_behind passed [] true ≡ stopped Whole
nothing_left passed near = part_run passed [] true (record { text = All-nil (λ b. is_lf b ≡ false); short = omega arith; near = omega arith })

last_with : (passed : ℕ) (pending : List ℕ) → IsPart passed pending → 0 < length pending → lines_behind passed pending true ≡ with_lines (pending ∷ []) (lines_behind (passed + length pending) [] true)
last_with passed [] part some = absurd (omega arith)
last_with passed (b ∷ bs) part some = part_run passed (b ∷ bs) true part ∙ ap (λ (r : LineRun). with_lines ((b ∷ bs) ∷ []) r) (sym (nothing_left (passed + length (b ∷ bs)) part.near))

-- there is a last line now
pub last_now : {S : Type 0} (held : Lined S) → IsPart held.passed held.pending → held.supply ≡ supply.Ended → 0 < length held.pending → (line : List ℕ) × (run : LineRun) × (lines_now held ≡ with_lines (line ∷ []) run)
last_now held part over some =
    (held.pending, _, ap (λ s. lines_behind held.passed held.pending (is_ended s)) over ∙ last_with held.passed held.pending part some)

-- then want of memory may be answered
pub line_wanted : {S : Type 0} (held : Lined S) → (line : List ℕ) × (run : LineRun) × (lines_now held ≡ with_lines (line ∷ []) run) → 0 < length (lines_now held).lines
line_wanted held now = let some : length (lines_now held).lines ≡ 1 + length now.1.lines = ap (λ (r : LineRun). length r.lines) now.2 ∙ omega arith in omega arith

-- and the bytes don't stop there
pub line_not_stopped : {S : Type 0} (held : Lined S) (stop : Stop) → (line : List ℕ) × (run : LineRun) × (lines_now held ≡ with_lines (line ∷ []) run) → IsStopped held stop → ⊥
line_not_stopped held stop now is_stopped =
    let none : 0 ≡ length (lines_now held).lines = ap (λ (r : LineRun). length r.lines) (sym is_stopped.0) in
    let some = line_wanted held now in
    omega arith

-- the bytes stop in one way
pub same_stop : {S : Type 0} (held : Lined S) (first second : Stop) → IsStopped held first → IsStopped held second → first ≡ second
same_stop held first second one other = ap (λ (r : LineRun). r.stop) (sym one.0 ∙ other.0)

-- a fault comes where the bytes stop in its way
pub fault_comes : {S : Type 0} (held : Lined S) (fault : LineFault) → Shows held (Err fault) → ComesWhere (Err fault) held
fault_comes held ReadFault shows = failed_stop held shows.0 shows.1
fault_comes held LineLong shows = (shows, tt)
fault_comes held (TooLong taken) shows = ((shows.0, tt), shows.1)
fault_comes held Memory shows = absurd shows

-- and no other answer does
pub fault_again : {S : Type 0} (held : Lined S) (fault : LineFault) (stop : Stop) → Shows held (Err fault) → IsStopped held stop → Err fault ≡ answer_at stop
fault_again held ReadFault stop shows is_stopped = ap answer_at (same_stop held Open stop (failed_stop held shows.0 shows.1) is_stopped)
fault_again held LineLong stop shows is_stopped = ap answer_at (same_stop held Long stop (shows, tt) is_stopped)
fault_again held (TooLong taken) stop shows is_stopped = rw shows.1 (ap answer_at (same_stop held Over stop (shows.0, tt) is_stopped))
fault_again held Memory stop shows is_stopped = absurd shows

module _ {S : Type 0} (seen : S → SourceSeen) where
  took_past : {a b : Lined S} {taken : List ℕ} (count : ℕ) → count ≤ length b.pending → Took seen a b taken → Took seen a (past b count) taken
  took_past {a} {b} count there took =
      let same : b.passed + count + length (drop count b.pending) ≡ b.passed + length b.pending = omega (arith, length-drop count b.pending) in
      record { takes = took.takes; count = took.count; named = took.named; total = same ∙ took.total; few = λ few. omega (arith, same, took.few few); failed = took.failed; at_end = took.at_end; stays = took.stays; rests = took.rests; came = took.came }

  -- the bytes that were taken, as they wait
  taken_with : {a b : Lined S} (more : TookMore seen a b) (later : List ℕ) (ended : Bool) → lines_with a (more.taken ++ later) ended ≡ lines_with b later ended
  taken_with {a} {b} more later ended = rw (more.passed, more.pending, append_assoc) refl

  pub gave_line : {a b : Lined S} (count : ℕ) → TookMore seen a b → BeginsLine b.passed b.pending count → Gave seen a (past b (count + 1)) (without_cr (take count b.pending) ∷ [])
  gave_line {a} {b} count more begins = record {
    taken = more.taken;
    took = took_past (count + 1) (let there = begins.there in omega arith) more.took;
    lines = λ later ended _. taken_with more later ended ∙ line_with b.passed count b.pending later ended begins;
    count = ap (λ n. n + 1) more.given;
  }

  pub gave_last : {a b : Lined S} → TookMore seen a b → IsPart b.passed b.pending → b.supply ≡ supply.Ended → 0 < length b.pending → Gave seen a (past b (length b.pending)) (b.pending ∷ [])
  gave_last {a} {b} more part over some = record {
    taken = more.taken;
    took = took_past (length b.pending) (omega arith) more.took;
    lines = λ later ended can.
        let none : (later ≡ []) × (ended ≡ true) = rw over at can in
        let all : drop (length b.pending) b.pending ++ later ≡ [] = rw (none.0, drop_all (length b.pending) b.pending (omega arith)) refl in
        taken_with more later ended ∙ rw (all, none.0, none.1, append-nil) (last_with b.passed b.pending part some);
    count = ap (λ n. n + 1) more.given;
  }
