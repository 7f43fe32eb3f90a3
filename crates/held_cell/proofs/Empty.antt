-- An empty journal has no entry.
use Rattle.std.specs.Prelude.{◌≡◌, List, [], ◌∷◌, ◌++◌, Bool, true, false}
use Rattle.std.proofs.Common.{sym, ap}
use Rattle.std.proofs.lemmas.Bool.{true≢false}

abbrev has_item : {X : Type 0} → List X → Bool
has_item [] = false
has_item (x ∷ xs) = true

pub no_entry : {X : Type 0} (before after : List X) (e : X) → [] ≡ before ++ e ∷ after → ⊥
no_entry [] after e h = true≢false (sym (ap has_item h))
no_entry (x ∷ before) after e h = true≢false (sym (ap has_item h))
