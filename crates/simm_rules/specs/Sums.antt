-- Sums of signed amounts, different items in order, the first of several answers.
use Rattle.std.specs.Prelude.{List, [], ◌∷◌, ℤ, pos, ◌+ℤ◌, Option, Some, None}
use Rattle.std.specs.declared.cmp.Ordering.{Ordering}
use Rattle.std.specs.declared.cmp.Ordering.TheVariants.{Less, Equal, Greater}

abbrev pub total_by : {A : Type 0} → (A → ℤ) → List A → ℤ
total_by f [] = pos 0
total_by f (x ∷ xs) = f x +ℤ total_by f xs

-- the sum over every ordered pair
abbrev pub total_by_pairs : {A : Type 0} → (A → A → ℤ) → List A → ℤ
total_by_pairs f xs = total_by (λ x. total_by (λ y. f x y) xs) xs

-- an item before y and the rest ys, after y, or y itself, where deeper is the rest with the item
abbrev pub placed : {A : Type 0} → Ordering → A → A → List A → List A → List A
placed Less x y ys deeper = x ∷ y ∷ ys
placed Equal x y ys deeper = y ∷ ys
placed Greater x y ys deeper = y ∷ deeper

-- the item in its place, unless it is there
abbrev pub put_in : {A : Type 0} → (A → A → Ordering) → A → List A → List A
put_in cmp x [] = x ∷ []
put_in cmp x (y ∷ ys) = placed (cmp x y) x y ys (put_in cmp x ys)

-- the different items, in order
abbrev pub different : {A : Type 0} → (A → A → Ordering) → List A → List A
different cmp [] = []
different cmp (x ∷ xs) = put_in cmp x (different cmp xs)

abbrev pub first_some : {A : Type 0} → List (Option A) → Option A
first_some [] = None
first_some (None ∷ xs) = first_some xs
first_some ((Some x) ∷ xs) = Some x
