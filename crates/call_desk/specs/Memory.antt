-- What a desk over memory is, as contracts see it, and which of its calls fail.
use Rattle.std.specs.Prelude.{ℕ, ◌==◌, Bool, true, false, List, [], ◌∷◌, ◌++◌, Some, Result, Ok, Err, length}
use Rattle.std.specs.List.{list_any}
use Rattle.mh_io.specs.Faults.{added_faults}
use Rattle.call_desk.specs.declared.notice.Notice.{Notice}
use Rattle.call_desk.specs.declared.fault.DeskFault.{DeskFault}
use Rattle.call_desk.specs.declared.fault.DeskFault.TheVariants.{Failed, Memory}
use Rattle.call_desk.specs.Desk.{DeskSeen}

-- the notices that it was told; the numbers of the calls that are to fail and of those that are to find no memory, the first call
-- being number 1; how many calls were made; the faults and the wants that it met
pub record MemoryDesk : Type 0 where
  pub told : List Notice
  pub failing : List ℕ
  pub wanting : List ℕ
  pub calls : ℕ
  pub faults : ℕ
  pub wants : ℕ

-- it was told nothing yet
abbrev pub uncalled : List ℕ → List ℕ → MemoryDesk
uncalled failing wanting = record { told = []; failing = failing; wanting = wanting; calls = 0; faults = 0; wants = 0 }

-- it tells all that it was told
abbrev pub memory_seen : MemoryDesk → DeskSeen
memory_seen desk = record { faults = desk.faults; wants = desk.wants; tellings = length desk.told; told = Some desk.told }

-- the number of the next call; past its last value the number stands
abbrev pub next_call : MemoryDesk → ℕ
next_call desk = added_faults desk.calls 1

-- the next call is to fail
abbrev pub is_failing : MemoryDesk → Bool
is_failing desk = list_any (λ number. number == next_call desk) desk.failing

abbrev pub has_failed : Result (Unit {0}) DeskFault → Bool
has_failed (Ok _) = false
has_failed (Err Failed) = true
has_failed (Err Memory) = false

-- the next call is to find no memory, unless it is to fail
abbrev pub is_wanting : MemoryDesk → Bool
is_wanting desk = list_any (λ number. number == next_call desk) desk.wanting

-- the desk after a call
abbrev pub after_tell : Result (Unit {0}) DeskFault → Notice → MemoryDesk → MemoryDesk
after_tell (Ok _) notice desk = record desk { told = desk.told ++ notice ∷ []; calls = next_call desk }
after_tell (Err Failed) _ desk = record desk { calls = next_call desk; faults = added_faults desk.faults 1 }
after_tell (Err Memory) _ desk = record desk { calls = next_call desk; wants = added_faults desk.wants 1 }
