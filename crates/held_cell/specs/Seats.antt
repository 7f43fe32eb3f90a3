-- A cell and a seat, as contracts see them.
use Rattle.std.specs.Prelude.{◌≡◌, ℕ, ◌+◌, ◌-◌, ◌<◌, ◌≤◌, true, false, List, [], ◌∷◌, ◌++◌, length, Option, Some}
use mathlib.Core.List.{IsPrefix}
use Rattle.atomic_table.specs.Table.{Me}
use Rattle.atomic_table.specs.Seated.{TableId}
use Rattle.held_cell.specs.declared.entry.Entry.{Entry}
use Rattle.held_cell.specs.declared.view.View.{View}
use Rattle.std.specs.List.{AllPass}
use Rattle.held_cell.specs.Entries.{is_in, own_of}
use Rattle.held_cell.specs.Views.{longer_of}

-- which cell it is, the base of the machine that it was started with, and the number of callers
pub record CellState (B : Type 0) : Type 0 where
  pub table : TableId
  pub base : B
  pub callers : ℕ

-- a seat: its cell, its callers, what it has seen, the calls of its callers, and a count of its steps
pub record SeatState (B E R : Type 0) : Type 0 where
  pub table : TableId
  pub base : Option B
  pub first : ℕ
  pub count : ℕ
  pub seen : List (Entry E R)
  pub own : List (Entry E R)
  pub loads : ℕ
  pub tries : ℕ
  pub takes : ℕ
  pub loaded : ℕ
  pub found : ℕ

abbrev pub cell_state : {B : Type 0} → TableId → B → ℕ → CellState B
cell_state table base callers = record { table = table; base = base; callers = callers }

module _ {B E R : Type 0} where
  abbrev pub IsSeatOf : CellState B → SeatState B E R → Type 0
  IsSeatOf cell seat = (seat.table ≡ cell.table) × (seat.base ≡ Some cell.base)

  -- its own are all entries of what it has seen whose caller is one of its callers, in order
  abbrev pub HasOwn : SeatState B E R → Type 0
  HasOwn seat = seat.own ≡ own_of seat.first seat.count seat.seen

  abbrev pub seat_state : TableId → View B E R → SeatState B E R
  seat_state table v = record {
    table = table;
    base = v.base;
    first = v.first;
    count = v.count;
    seen = v.seen;
    own = own_of v.first v.count v.seen;
    loads = v.loads;
    tries = v.tries;
    takes = v.takes;
    loaded = v.loaded;
    found = v.found;
  }

module _ {B E R M : Type 0} (IsLegal : B → List (Entry E R) → Type 0) where
  -- a seat at rest holds nothing, and has seen a legal journal
  pub record IsAtRest (first count seen_len : ℕ) (m : Me (Option M) (View B E R)) : Type 0 where
    pub nothing_held : m.1 ≡ []
    pub idle : m.0.holding ≡ false
    pub first_is : m.0.first ≡ first
    pub count_is : m.0.count ≡ count
    pub some_callers : 0 < count
    pub within : first + count ≤ 1024
    pub seen_is : length m.0.seen ≡ seen_len
    pub legal : (base : B) → m.0.base ≡ Some base → IsLegal base m.0.seen

  -- a seat that holds the machine has seen its journal
  pub record IsHolding (base_of : M → B) (journal : M → List (Entry E R)) (m : Me (Option M) (View B E R)) : Type 0 where
    pub machine : M
    pub slot : m.1 ≡ (0, Some machine) ∷ []
    pub seen_is : journal machine ≡ m.0.seen
    pub holds : m.0.holding ≡ true
    pub some_callers : 0 < m.0.count
    pub base_is : m.0.base ≡ Some (base_of machine)
    pub legal : IsLegal (base_of machine) (journal machine)

  -- a seat whose machine took a step or none owes this of it
  pub record IsOut (base_of : M → B) (journal : M → List (Entry E R)) (v : View B E R) (machine : M) : Type 0 where
    pub holds : v.holding ≡ true
    pub base_is : v.base ≡ Some (base_of machine)
    pub legal : IsLegal (base_of machine) (journal machine)
    pub added : List (Entry E R)
    pub grows : v.seen ++ added ≡ journal machine
    pub mine : AllPass (is_in v.first v.count) added

module _ {B E R : Type 0} where
  -- the first `left` callers of a seat, with their calls
  abbrev pub left_seat : ℕ → SeatState B E R → SeatState B E R
  left_seat left s = record s { count = left; own = own_of s.first left s.own }

  -- its other callers, with theirs
  abbrev pub right_seat : ℕ → SeatState B E R → SeatState B E R
  right_seat left s = record {
    table = s.table;
    base = s.base;
    first = s.first + left;
    count = s.count - left;
    seen = s.seen;
    own = own_of (s.first + left) (s.count - left) s.own;
    loads = 0;
    tries = 0;
    takes = 0;
    loaded = 0;
    found = 0;
  }

  -- one seat of two that stand side by side: of what was seen, each began it, and it has the calls of each and no other calls of its callers
  pub record IsJoined (a b both : SeatState B E R) : Type 0 where
    pub first : both.first ≡ a.first
    pub count : both.count ≡ a.count + b.count
    pub seen : both.seen ≡ longer_of a.seen b.seen
    pub left_begins : IsPrefix a.seen both.seen
    pub right_begins : IsPrefix b.seen both.seen
    pub left_own : own_of a.first a.count both.own ≡ a.own
    pub right_own : own_of b.first b.count both.own ≡ b.own
