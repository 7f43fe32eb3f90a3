-- A seat that holds one slot.
use Rattle.std.proofs.Common.{◌≡◌, ℕ, List, [], ◌∷◌, ap, sym, ◌∙◌}
use Rattle.atomic_table.specs.Table.{Me, rest}

pub one_slot : {S : Type 0} (carried : List (ℕ × S)) (slot : ℕ × S) → carried ≡ slot ∷ [] → carried ≡ slot ∷ rest carried
one_slot carried slot e = e ∙ ap (λ xs. slot ∷ rest xs) (sym e)

-- another value in the one slot
pub same_slot : {S V : Type 0} (v : V) (new : S) (carried : List (ℕ × S)) (old : ℕ × S) (m : Me S V) → carried ≡ old ∷ [] → m ≡ (v, (0, new) ∷ rest carried) → m ≡ (v, (0, new) ∷ [])
same_slot v new carried old m one is = is ∙ ap (λ xs. (v, (0, new) ∷ rest xs)) one
