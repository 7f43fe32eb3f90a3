-- What each kind of step makes of a seat's view.
use Rattle.std.specs.Prelude.{ℕ, ◌+◌, ◌-◌, ◌<◌, ◌≤◌, true, false, if◌then◌else◌, nat_lt, List, [], ◌∷◌, length, Option, Some, None}
use Rattle.held_cell.specs.declared.entry.Entry.{Entry}
use Rattle.held_cell.specs.declared.view.View.{View}
use Rattle.held_cell.specs.declared.view.Part.{Part}

-- the longer of two lists
abbrev pub longer_of : {A : Type 0} → List A → List A → List A
longer_of xs ys = if nat_lt (length xs) (length ys) then ys else xs

module _ {B E R : Type 0} where
  -- a seat that has seen nothing and made no step
  abbrev pub fresh : Option B → ℕ → ℕ → List (Entry E R) → View B E R
  fresh base first count seen = record { base = base; first = first; count = count; seen = seen; holding = false; loads = 0; tries = 0; takes = 0; loaded = 0; found = 0; parts = [] }

  -- the first seat of a cell
  abbrev pub opened : B → ℕ → View B E R
  opened base callers = fresh (Some base) 0 callers []

  -- a load found this word
  abbrev pub looked : View B E R → ℕ → View B E R
  looked v word = record v { loads = v.loads + 1; loaded = word; parts = [] }

  -- an exchange found another word than the loaded one
  abbrev pub missed : View B E R → ℕ → View B E R
  missed v word = record v { tries = v.tries + 1; found = word; parts = [] }

  -- an exchange took the word, at this journal
  abbrev pub taken : View B E R → ℕ → List (Entry E R) → View B E R
  taken v word log = record v { seen = log; holding = true; tries = v.tries + 1; takes = v.takes + 1; found = word; parts = [] }

  -- the machine was given home with this journal
  abbrev pub given : View B E R → List (Entry E R) → View B E R
  given v log = record v { seen = log; holding = false; parts = [] }

  -- the first `left` callers of a seat, and the others
  abbrev pub left_of : ℕ → View B E R → View B E R
  left_of left v = record v { count = left; parts = [] }

  abbrev pub right_of : ℕ → View B E R → View B E R
  right_of left v = fresh v.base (v.first + left) (v.count - left) v.seen

  abbrev pub part_of : View B E R → Part E R
  part_of v = record { first = v.first; count = v.count; seen = v.seen }

  -- two seats made one
  abbrev pub joined : View B E R → View B E R → View B E R
  joined v w = record v { count = v.count + w.count; seen = longer_of v.seen w.seen; parts = part_of v ∷ part_of w ∷ [] }

  -- what is left of a seat that went into another
  abbrev pub spent : View B E R
  spent = fresh None 0 0 []

  -- the caller is one of the seat's
  abbrev pub Has : View B E R → ℕ → Type 0
  Has v caller = (v.first ≤ caller) × (caller < v.first + v.count)

  -- no caller is of both seats
  abbrev pub AreApart : View B E R → View B E R → Type 0
  AreApart v w = (caller : ℕ) → Has v caller → Has w caller → ⊥
