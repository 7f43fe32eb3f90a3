-- Why a machine takes no step.
use Rattle.std.specs.Prelude.{◌≡◌, ℕ, List, [], ◌∷◌, ◌++◌, length, Result, Ok, Err}
use Rattle.held_cell.specs.declared.entry.Entry.{Entry}
use Rattle.held_cell.specs.Entries.{entry}
use Rattle.held_cell.specs.declared.machine.Halt.{Halt}
use Rattle.held_cell.specs.declared.machine.Halt.TheVariants.{Full, Memory}

module _ {E R : Type 0} (weight : List (Entry E R) → ℕ) (is_full : List (Entry E R) → E → Type 0) where
  -- Full shows the journal's length and weight. It comes by the journal's limit, and a full journal is told as such whatever memory there is. The event comes back
  abbrev pub Explains : List (Entry E R) → E → Halt E → Type 0
  Explains log event (Full entries heavy back) = (entries ≡ length log) × (heavy ≡ weight log) × is_full log event × (back ≡ event)
  Explains log event (Memory back) = (¬ is_full log event) × (back ≡ event)

module _ {E R : Type 0} where
  -- the journal after a step: one entry more, or the same
  abbrev pub log_after : List (Entry E R) → ℕ → E → Result R (Halt E) → List (Entry E R)
  log_after log caller event (Ok reply) = log ++ entry caller event reply ∷ []
  log_after log caller event (Err _) = log
