-- Where the bytes stop for good, and where they don't.
use Rattle.std.proofs.Common.{◌≡◌, ℕ, List, [], ◌∷◌, length, refl, sym, ap, ◌∙◌, subst, arith, if◌then◌else◌}
use Rattle.mh_io.specs.Lines.{LineRun, Stop, Whole, Open, stopped, last_line}
use Rattle.mh_io.specs.Lined.{Lined, IsStopped, IsFinal, is_ended, lines_now}
use Rattle.mh_io.specs.LinesSteps.{IsPart}
use Rattle.mh_io.specs.declared.lines_answer.Supply.TheVariants as supply
use Rattle.mh_io.proofs.LinesRuns.{part_run}

-- a part of a line, as the supply has it
pub part_now : {S : Type 0} (held : Lined S) → IsPart held.passed held.pending → lines_now held ≡ (if is_ended held.supply then last_line held.pending else stopped Open)
part_now held part = part_run held.passed held.pending (is_ended held.supply) part

-- a part of a line, where more may come
pub not_stopped : {S : Type 0} (held : Lined S) (stop : Stop) → IsPart held.passed held.pending → held.supply ≡ supply.Open → IsStopped held stop → ⊥
not_stopped held stop part is_open is_stopped =
    let now : lines_now held ≡ stopped Open = part_now held part ∙ ap (λ s. if is_ended s then last_line held.pending else stopped Open) is_open in
    let same : Open ≡ stop = ap (λ (r : LineRun). r.stop) (sym now ∙ is_stopped.0) in
    let final : IsFinal held.supply Open = subst (IsFinal held.supply) (sym same) is_stopped.1 in
    cc (sym is_open ∙ final)

-- the source failed behind a part of a line
pub failed_stop : {S : Type 0} (held : Lined S) → IsPart held.passed held.pending → held.supply ≡ supply.Failed → IsStopped held Open
failed_stop held part is_failed = (part_now held part ∙ ap (λ s. if is_ended s then last_line held.pending else stopped Open) is_failed, is_failed)

-- the input ended, and nothing is left
pub ended_stop : {S : Type 0} (held : Lined S) → IsPart held.passed held.pending → held.supply ≡ supply.Ended → held.pending ≡ [] → IsStopped held Whole
ended_stop held part is_ended_now nothing =
    (part_now held part ∙ (ap (λ s. if is_ended s then last_line held.pending else stopped Open) is_ended_now ∙ ap last_line nothing), is_ended_now)

-- no bytes are the empty list
pub no_bytes : (bytes : List ℕ) → length bytes ≡ 0 → bytes ≡ []
no_bytes [] none = refl
no_bytes (b ∷ bs) none = absurd (omega arith)
