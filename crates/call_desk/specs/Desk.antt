-- What is seen of a desk, and what telling it notices does.
use Rattle.std.specs.Prelude.{◌≡◌, ℕ, ◌<◌, ◌≤◌, List, [], ◌∷◌, ◌++◌, Option, Some, None, Result, Err, length, take, max, option_map, IfNone, IsSome, OnOk, OnErr}
use Rattle.mh_io.specs.Faults.{Rises, added_faults}
use Rattle.call_desk.specs.declared.notice.Notice.{Notice}
use Rattle.call_desk.specs.declared.fault.DeskFault.{DeskFault}
use Rattle.call_desk.specs.declared.fault.DeskFault.TheVariants.{Failed, Memory}

-- the faults and the wants of memory that a desk met, how many notices it was told, and these notices, where it tells them
pub record DeskSeen : Type 0 where
  pub faults : ℕ
  pub wants : ℕ
  pub tellings : ℕ
  pub told : Option (List Notice)

-- a desk that tells only these counts
abbrev pub counts_alone : ℕ → ℕ → ℕ → DeskSeen
counts_alone faults wants tellings = record { faults = faults; wants = wants; tellings = tellings; told = None }

-- a count of tellings after so many more: it never falls, and stands at its last value once it is there
abbrev pub with_tellings : ℕ → ℕ → ℕ
with_tellings tellings more = max tellings (added_faults tellings more)

-- what is told gains these notices at its end
abbrev pub Gains : DeskSeen → DeskSeen → List Notice → Type 0
Gains old new notices = new.told ≡ option_map (λ held. held ++ notices) old.told

-- one notice: the desk was told it, or wasn't and met a fault or a want
pub record Tells (old new : DeskSeen) (notice : Notice) (result : Result (Unit {0}) DeskFault) : Type 0 where
  pub faults : old.faults ≤ new.faults
  pub wants : old.wants ≤ new.wants
  pub counted : OnOk result (new.tellings ≡ with_tellings old.tellings 1)
  pub ok : OnOk result (Gains old new (notice ∷ []))
  pub uncounted : OnErr result (new.tellings ≡ old.tellings)
  pub err : OnErr result (new.told ≡ old.told)
  pub failed : result ≡ Err Failed → Rises old.faults new.faults
  pub memory : result ≡ Err Memory → Rises old.wants new.wants

-- the desk was told just these notices and counted each, and no count fell
pub record WasTold (old new : DeskSeen) (notices : List Notice) : Type 0 where
  pub faults : old.faults ≤ new.faults
  pub wants : old.wants ≤ new.wants
  pub tellings : new.tellings ≡ with_tellings old.tellings (length notices)
  pub list : Gains old new notices

-- notices in order up to the first fault: this many were told, which is all, or fewer where a fault or a want ended them
pub record TellsAll (old new : DeskSeen) (notices : List Notice) (told : ℕ) (fault : Option DeskFault) : Type 0 where
  pub front : WasTold old new (take told notices)
  pub whole : IfNone fault (told ≡ length notices)
  pub short : IsSome fault → told < length notices
  pub failed : fault ≡ Some Failed → Rises old.faults new.faults
  pub memory : fault ≡ Some Memory → Rises old.wants new.wants
