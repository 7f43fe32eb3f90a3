-- Things in the ascending order of a number that each of them has.
use Rattle.std.specs.Prelude.{ℕ, List, [], ◌∷◌, nat_lt, if◌then◌else◌}

-- one thing among others that ascend, behind those whose number isn't above its own
abbrev pub insert_by : {X : Type 0} → (X → ℕ) → X → List X → List X
insert_by number x [] = x ∷ []
insert_by number x (y ∷ ys) = if nat_lt (number x) (number y) then x ∷ y ∷ ys else y ∷ insert_by number x ys

abbrev pub sorted_by : {X : Type 0} → (X → ℕ) → List X → List X
sorted_by number [] = []
sorted_by number (x ∷ xs) = insert_by number x (sorted_by number xs)
