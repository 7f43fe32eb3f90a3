-- The rows of trades, one trade after another.
use Rattle.std.proofs.Common.{◌≡◌, ℕ, ◌+◌, ◌<◌, ◌≤◌, Bool, ◌&&◌, List, [], ◌∷◌, length, get_or, take, drop, refl, sym, ap, ◌∙◌, arith, length-append}
use Rattle.std.specs.List.{flat_map, list_all}
use Rattle.std.proofs.lemmas.Grind.{flat_map-append}
use Rattle.std.proofs.lemmas.List.{take-append-drop}
use Rattle.std.proofs.lemmas.List.Folds.{list_all-append}
use Rattle.simm_kinds.proofs.Repeated.{take_next}

-- the parts of the first items and of the next one are among all parts
pub length-flat_map_front : {A B : Type 0} (f : A → List B) (xs : List A) (i : ℕ) (x : A) → i < length xs → x ≡ get_or xs i x → length (flat_map f (take i xs)) + length (f x) ≤ length (flat_map f xs)
length-flat_map_front f xs i x within is =
    let all = ap (flat_map f) (sym (take-append-drop (i + 1) xs)) ∙ flat_map-append f (take (i + 1) xs) (drop (i + 1) xs) in
    let front = ap (flat_map f) (take_next xs i x within is) ∙ flat_map-append f (take i xs) (x ∷ []) in
    let all_length = simp length-append at (ap length all) in
    let front_length = simp length-append at (ap length front) in
    omega (arith, all_length, front_length)

-- each part of each item passes a test
pub all_flat_map : {A B : Type 0} (f : A → List B) (p : B → Bool) (xs : List A) → list_all p (flat_map f xs) ≡ list_all (λ x. list_all p (f x)) xs
all_flat_map f p [] = refl
all_flat_map f p (x ∷ xs) = list_all-append p (f x) (flat_map f xs) ∙ ap (λ b. list_all p (f x) && b) (all_flat_map f p xs)
