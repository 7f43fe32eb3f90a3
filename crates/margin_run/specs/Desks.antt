-- What a command does to the desks that it was handed.
use Rattle.std.specs.Prelude.{◌≡◌, List, Some}
use Rattle.std.specs.List.{Contains}
use Rattle.mh_io.specs.Faults.{Rises}
use Rattle.call_desk.specs.declared.notice.Notice.{Notice}
use Rattle.call_desk.specs.declared.fault.DeskFault.TheVariants.{Failed, Memory}
use Rattle.call_desk.specs.declared.publishing.Published.{Published}
use Rattle.call_desk.specs.Desk.{DeskSeen}
use Rattle.call_desk.specs.Publish.{Outcome, Publishes}

-- the desks before a call and after it, the retired ones before and after, and what is seen of each
pub record Desks (B : Type 0) : Type 0 where
  pub seen : B → DeskSeen
  pub before : List B
  pub after : List B
  pub retired_before : List B
  pub retired : List B

abbrev pub desks_of : {B : Type 0} → (B → DeskSeen) → List B → List B → List B → List B → Desks B
desks_of seen before after retired_before retired =
    record { seen = seen; before = before; after = after; retired_before = retired_before; retired = retired }

-- no desk was told anything, and none was retired
pub record AreUntold {B : Type 0} (d : Desks B) : Type 0 where
  pub desks : d.after ≡ d.before
  pub retired : d.retired ≡ d.retired_before

-- Each desk was told the notices in order, up to its first fault, and its count of tellings rose by as many as it was told,
-- whether or not it lends its list: those without a fault were told all and keep their order; each of the others was told
-- a shorter front, its count of faults or of wants rose, and they stand in order behind the desks that were retired before
-- (*Publishes*).
pub record AreTold {B : Type 0} (notices : List Notice) (d : Desks B) : Type 0 where
  pub published : Published
  pub outcomes : List (Outcome B)
  pub publishes : Publishes d.seen notices d.before d.after d.retired_before d.retired published outcomes

-- and none was retired, so each was told all
pub record AllAreTold {B : Type 0} (notices : List Notice) (d : Desks B) : Type 0 where
  pub told : AreTold notices d
  pub stay : d.retired ≡ d.retired_before

-- and one that was retired in this call failed: its count of faults rose
pub record OneFailed {B : Type 0} (notices : List Notice) (d : Desks B) : Type 0 where
  pub told : AreTold notices d
  pub o : Outcome B
  pub there : Contains (told.outcomes) o
  pub failed : o.fault ≡ Some Failed
  pub rose : Rises (d.seen o.before).faults (d.seen o.after).faults

-- and none failed, but one that was retired in this call found no memory: its count of wants rose
pub record OneWanted {B : Type 0} (notices : List Notice) (d : Desks B) : Type 0 where
  pub told : AreTold notices d
  pub none_failed : told.published.failed ≡ 0
  pub o : Outcome B
  pub there : Contains (told.outcomes) o
  pub wanted : o.fault ≡ Some Memory
  pub rose : Rises (d.seen o.before).wants (d.seen o.after).wants
