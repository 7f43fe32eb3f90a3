-- The entries of a journal, and whose they are.
use Rattle.std.specs.Prelude.{ℕ, ◌+◌, Bool, ◌&&◌, nat_le, nat_lt, List, filter}
use Rattle.held_cell.specs.declared.entry.Entry.{Entry}

module _ {E R : Type 0} where
  -- one call: who made it, with what, and what it was answered
  abbrev pub entry : ℕ → E → R → Entry E R
  entry caller event reply = record { caller = caller; event = event; reply = reply }

  -- the caller is one of the `count` numbers from `first` on
  abbrev pub is_in : ℕ → ℕ → Entry E R → Bool
  is_in first count e = nat_le first e.caller && nat_lt e.caller (first + count)

  -- the entries whose caller is in the range, in order
  abbrev pub own_of : ℕ → ℕ → List (Entry E R) → List (Entry E R)
  own_of first count log = filter (is_in first count) log
