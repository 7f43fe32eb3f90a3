-- The rule of a cell, which each step keeps: one word, one slot, and the views of all seats.
use Rattle.std.specs.Prelude.{◌≡◌, ◌≢◌, ℕ, ◌+◌, ◌*◌, ◌<◌, ◌≤◌, ◌==◌, true, false, ◌⊎◌, List, [], ◌∷◌, ◌++◌, length, All, MatchBool, Option, Some, slice_index}
use mathlib.Core.Option.{none, some}
use mathlib.Core.List.{IsPrefix}
use lib.ListN.{get_elem?}
use Rattle.atomic_table.specs.Table.{State, Me, Step}
use Rattle.held_cell.specs.declared.entry.Entry.{Entry}
use Rattle.held_cell.specs.declared.view.View.{View}
use Rattle.held_cell.specs.declared.view.Part.{Part}
use Rattle.held_cell.specs.Entries.{own_of}
use Rattle.held_cell.specs.Views.{AreApart, looked, missed, taken, given}

module _ {E R : Type 0} where
  -- `seen` begins with what the part had seen, and has no other calls of its callers
  abbrev pub Extends : List (Entry E R) → Part E R → Type 0
  Extends seen p = IsPrefix p.seen seen × (own_of p.first p.count seen ≡ own_of p.first p.count p.seen)

module _ {B E R : Type 0} where
  -- a seat beside the journal: what it has seen begins it, and the rest has none of its callers
  pub record IsPlaced (base : B) (callers : ℕ) (log : List (Entry E R)) (v : View B E R) : Type 0 where
    pub origin : 0 < v.count → v.base ≡ Some base
    pub below : v.first + v.count ≤ callers
    pub rest : List (Entry E R)
    pub begins : v.seen ++ rest ≡ log
    pub none_own : own_of v.first v.count rest ≡ []
    pub parts_in : All (Extends v.seen) v.parts
    pub holder_has : v.holding ≡ true → 0 < v.count

module _ {B E R M : Type 0} where
  -- the word is odd: one seat holds the machine, and has seen the journal
  pub record IsTaken (log : List (Entry E R)) (s : State (Option M) (View B E R)) : Type 0 where
    pub odd : slice_index s.words 0 ≡ 2 * length log + 1
    pub away : get_elem? s.homes 0 ≡ some none
    pub holder : ℕ
    pub holder_in : holder < length s.views
    pub holder_holds : (v : View B E R) → get_elem? s.views holder ≡ some v → v.holding ≡ true
    pub only : (id : ℕ) (v : View B E R) → get_elem? s.views id ≡ some v → v.holding ≡ true → (id ≡ holder) × (v.seen ≡ log)

  -- a load tells the word, and of a joined seat that what it has seen begins with what both had seen
  abbrev pub Looks : Me (Option M) (View B E R) → ℕ → Me (Option M) (View B E R) → Type 0
  Looks m word n = (n ≡ (looked m.0 word, m.1)) × All (Extends m.0.seen) m.0.parts

module _ {E R M : Type 0} (journal : M → List (Entry E R)) where
  -- the journal of the machine that the seat holds
  abbrev pub held_log : List (ℕ × Option M) → List (Entry E R)
  held_log ((_, Some machine) ∷ _) = journal machine
  held_log _ = []

module _ {B E R M : Type 0} (journal : M → List (Entry E R)) where
  -- the machine goes home, and the seat has seen its journal
  abbrev pub Gives : Me (Option M) (View B E R) → Me (Option M) (View B E R) → Type 0
  Gives m n = n ≡ (given m.0 (held_log journal m.1), [])

module _ {B E R M : Type 0} (base_of : M → B) (journal : M → List (Entry E R)) where
  -- the word is even: the machine is at home, and nobody holds it
  pub record IsFree (base : B) (log : List (Entry E R)) (s : State (Option M) (View B E R)) : Type 0 where
    pub even : slice_index s.words 0 ≡ 2 * length log
    pub machine : M
    pub home : get_elem? s.homes 0 ≡ some (some (Some machine))
    pub journal_is : journal machine ≡ log
    pub base_is : base_of machine ≡ base
    pub nobody : (id : ℕ) (v : View B E R) → get_elem? s.views id ≡ some v → v.holding ≡ false

module _ {B E R M : Type 0} (base_of : M → B) (journal : M → List (Entry E R)) (IsLegal : B → List (Entry E R) → Type 0) where
  -- there is one legal journal, the word is its length and whether the machine is out, and each seat has seen a beginning of it
  pub record IsKept (base : B) (callers : ℕ) (s : State (Option M) (View B E R)) : Type 0 where
    pub log : List (Entry E R)
    pub legal : IsLegal base log
    pub of_callers : All (λ e. e.caller < callers) log
    pub one_word : length s.words ≡ 1
    pub turn : IsFree base_of journal base log s ⊎ IsTaken log s
    pub placed : (id : ℕ) (v : View B E R) → get_elem? s.views id ≡ some v → IsPlaced base callers log v
    pub apart : (i j : ℕ) (v w : View B E R) → get_elem? s.views i ≡ some v → get_elem? s.views j ≡ some w → i ≢ j → AreApart v w

  -- the machine is out with the seat, which has seen its journal
  pub record Takes (v : View B E R) (word : ℕ) (n : Me (Option M) (View B E R)) : Type 0 where
    pub machine : M
    pub me_is : n ≡ (taken v word (journal machine), (0, Some machine) ∷ [])
    pub base_is : v.base ≡ Some (base_of machine)
    pub legal : IsLegal (base_of machine) (journal machine)
    pub rest : List (Entry E R)
    pub begins : v.seen ++ rest ≡ journal machine
    pub none_own : own_of v.first v.count rest ≡ []
    pub long : 2 * length (journal machine) ≡ word

  -- an exchange takes the machine where it finds the word expected, and else tells the word
  abbrev pub Tries : Step (Option M) → Me (Option M) (View B E R) → ℕ → Me (Option M) (View B E R) → Type 0
  Tries st m word n = MatchBool (word == st.first) (Takes m.0 word n) (n ≡ (missed m.0 word, m.1))
