-- The field at a place of a record, and what is behind it.
use Rattle.std.proofs.Common.{◌≡◌, ◌∷◌, [], ℕ, suc, zero, ◌+◌, List, drop, Option, Some, None, option_map, refl, sym, ◌∙◌, ap, add-one}
use Rattle.std.specs.Borrow.{Bor}
use Rattle.std.specs.List.{slice_get}
use Rattle.std.specs.Option.{option_copied}
use Rattle.std.specs.Prelude.{map}
use Rattle.std.specs.Slice.{IsItemAt}
use Rattle.std.proofs.lemmas.Option.{slice_get_past, slice_get-get_or}
use Rattle.csv.specs.Records.{field_at}

pub drop-field_at : (fields : List (List ℕ)) (place : ℕ) (field : List ℕ) → field_at fields place ≡ Some field → drop place fields ≡ field ∷ drop (place + 1) fields
unfolding field_at
drop-field_at [] place field e = cc
drop-field_at (f ∷ fs) zero field e = let same : f ≡ field = cc e in ap (λ (x : List ℕ). x ∷ fs) same
drop-field_at (f ∷ fs) (suc place) field e = rw (add-one (suc place)) (rw (add-one place) at (drop-field_at fs place field e))

pub drop-field_none : (fields : List (List ℕ)) (place : ℕ) → field_at fields place ≡ None → drop place fields ≡ []
unfolding field_at
drop-field_none [] zero e = refl
drop-field_none [] (suc place) e = refl
drop-field_none (f ∷ fs) zero e = cc
drop-field_none (f ∷ fs) (suc place) e = drop-field_none fs place e

-- ---- of a list of lent fields

lent_at : (lent : List (Bor (List ℕ))) (place : ℕ) → field_at (map (λ f. f.now) lent) place ≡ option_map (λ f. f.now) (slice_get lent place)
unfolding field_at
lent_at [] place = refl
lent_at (f ∷ fs) zero = refl
lent_at (f ∷ fs) (suc place) = lent_at fs place

-- what a slice's `get` finds, copied
pub copied_field : (lent : List (Bor (List ℕ))) (place : ℕ) (found : Option (Bor (Bor (List ℕ)))) → IsItemAt lent place found
    → option_map (λ f. f.now) (option_copied found) ≡ field_at (map (λ f. f.now) lent) place
copied_field lent place None h = sym (lent_at lent place ∙ ap (option_map (λ f. f.now)) (slice_get_past lent place h.3))
copied_field lent place (Some f) h = sym (lent_at lent place ∙ ap (option_map (λ f. f.now)) (slice_get-get_or lent place f.now h.3.0 ∙ ap Some (sym h.1)))
