-- Feed grammar: the fields of a line, and what reading them one after another gives.
use Rattle.std.specs.Prelude.{◌≡◌, ℕ, List, [], ◌∷◌, Bool, true, false, if◌then◌else◌, Option, Some, None, option_map, option_and_then, Result, Ok, Err}
use Rattle.mh_io.specs.MhUnits.Cut.{parts_at}
use Rattle.feed_reader.specs.declared.fields.Fields.{Fields}
use Rattle.feed_reader.specs.declared.unread.Unread.{Unread}
use Rattle.feed_reader.specs.declared.unread.Unread.TheVariants as unread

-- the parts between the tabs
abbrev pub fields_of : List ℕ → List (List ℕ)
fields_of line = parts_at 9 line

-- those that are still to be read
abbrev pub fields_left : Fields → List (List ℕ)
fields_left fields = elim fields.rest [ None ↦ [] | Some rest ↦ fields_of rest.now ]

infixl 10 ◌>>=◌
abbrev pub ◌>>=◌ : {A B : Type 0} → Option A → (A → Option B) → Option B
o >>= f = option_and_then f o

-- the value of the first field, with the fields behind it
abbrev pub first : {A : Type 0} → (List ℕ → Option A) → List (List ℕ) → Option (A × List (List ℕ))
first read [] = None
first read (field ∷ fields) = option_map (λ value. (value, fields)) (read field)

abbrev pub is_nil : List (List ℕ) → Bool
is_nil [] = true
is_nil (field ∷ fields) = false

-- none is left
abbrev pub no_more : List (List ℕ) → Option (Unit {0})
no_more fields = if is_nil fields then Some tt else None

-- What is answered, seen by view, is what the grammar gives, unless memory ran out.
abbrev pub Gives : {X Y : Type 0} → (X → Y) → Result X Unread → Option Y → Type 0
Gives view (Ok x) read = read ≡ Some (view x)
Gives view (Err unread.Bad) read = read ≡ None
Gives view (Err unread.Memory) read = Unit {0}
