-- The steps of a value count its factors.
use Rattle.std.proofs.Common.{◌≡◌, ℕ, ◌+◌, ◌*◌, ◌≤◌, List, map, length, ap, ◌∙◌, subst}
use Rattle.std.proofs.lemmas.List.{length-map}

-- as many steps as there are factors, squared
pub counted : {A B : Type 0} (f : A → B) (old new : ℕ) (items own : List A) → items ≡ own → new ≤ old + length (map f items) * length (map f items) → new ≤ old + length own * length own
counted f old new items own there h = subst (λ n. new ≤ old + n * n) (length-map items f ∙ ap length there) h
