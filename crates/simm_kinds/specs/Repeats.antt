-- Lists in which an item stands twice.
use Rattle.std.specs.Prelude.{List, [], ◌∷◌, Bool, false, ◌||◌}
use Rattle.std.specs.List.{list_any}

-- whether two of the items are alike
abbrev pub repeats : {A : Type 0} → (A → A → Bool) → List A → Bool
repeats same [] = false
repeats same (x ∷ xs) = list_any (same x) xs || repeats same xs
