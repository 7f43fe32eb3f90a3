-- What publishing notices to desks does.
use Rattle.std.specs.Prelude.{◌≡◌, ℕ, ◌+◌, Bool, true, false, not, List, ◌++◌, map, Option, Some, None, is_none, count_by, if◌then◌else◌}
use Rattle.std.specs.List.{All, filter, sum_by}
use Rattle.call_desk.specs.declared.notice.Notice.{Notice}
use Rattle.call_desk.specs.declared.fault.DeskFault.{DeskFault}
use Rattle.call_desk.specs.declared.fault.DeskFault.TheVariants.{Failed, Memory}
use Rattle.call_desk.specs.declared.publishing.Published.{Published}
use Rattle.call_desk.specs.Desk.{DeskSeen, TellsAll}

-- what came of one desk: the desk before and after, how many notices it was told, and the fault that ended them
pub record Outcome (B : Type 0) : Type 0 where
  pub before : B
  pub after : B
  pub told : ℕ
  pub fault : Option DeskFault

abbrev pub IsRun : {B : Type 0} → (B → DeskSeen) → List Notice → Outcome B → Type 0
IsRun seen notices o = TellsAll (seen o.before) (seen o.after) notices o.told o.fault

abbrev pub stays : {B : Type 0} → Outcome B → Bool
stays outcome = is_none outcome.fault

abbrev pub leaves : {B : Type 0} → Outcome B → Bool
leaves outcome = not (stays outcome)

abbrev pub is_failed : Option DeskFault → Bool
is_failed (Some Failed) = true
is_failed (Some Memory) = false
is_failed None = false

abbrev pub is_wanting : Option DeskFault → Bool
is_wanting (Some Failed) = false
is_wanting (Some Memory) = true
is_wanting None = false

-- one desk more was told this many notices, and met this fault
abbrev pub with_run : Published → ℕ → Option DeskFault → Published
with_run published told fault = record {
  told = published.told + told;
  failed = published.failed + (if is_failed fault then 1 else 0);
  memory = published.memory + (if is_wanting fault then 1 else 0);
}

-- each desk has its outcome, in order: those without a fault are kept in order, the others stand in order behind those that were
-- retired before
pub record Publishes {B : Type 0} (seen : B → DeskSeen) (notices : List Notice) (desks_before desks retired_before retired : List B) (published : Published) (outcomes : List (Outcome B)) : Type 0 where
  pub each : All (IsRun seen notices) outcomes
  pub told_desks : desks_before ≡ map (λ o. o.before) outcomes
  pub staying : desks ≡ map (λ o. o.after) (filter stays outcomes)
  pub leaving : retired ≡ retired_before ++ map (λ o. o.after) (filter leaves outcomes)
  pub told : published.told ≡ sum_by (λ o. o.told) outcomes
  pub failed : published.failed ≡ count_by (λ o. is_failed o.fault) outcomes
  pub memory : published.memory ≡ count_by (λ o. is_wanting o.fault) outcomes
