-- Sums and lists of which each item is negated.
use Rattle.std.proofs.Common.{◌≡◌, List, [], ◌∷◌, map, Bool, true, false, cond, ℤ, neg_ℤ, ◌+ℤ◌, refl, sym, ap, ◌∙◌}
use Rattle.std.specs.List.{filter}
use Rattle.std.proofs.Math.IntN.{neg_ℤ-+ℤ}
use Rattle.factor_book.specs.SimmRules.Sums.{total_by, total_by_pairs}
use Rattle.factor_book.proofs.Sums.{total_by-map}

pub filter-map : {X Y : Type 0} (f : X → Y) (p : Y → Bool) (xs : List X) → filter p (map f xs) ≡ map f (filter (λ x. p (f x)) xs)
filter-map f p [] = refl
filter-map f p (x ∷ xs) = step (p (f x)) (filter-map f p xs)
  where
    step : (t : Bool) → filter p (map f xs) ≡ map f (filter (λ y. p (f y)) xs) → cond t (f x ∷ filter p (map f xs)) (filter p (map f xs)) ≡ map f (cond t (x ∷ filter (λ y. p (f y)) xs) (filter (λ y. p (f y)) xs))
    step true e = ap (λ ys. f x ∷ ys) e
    step false e = e

pub total_by-neg : {X : Type 0} (f : X → ℤ) (xs : List X) → total_by (λ x. neg_ℤ (f x)) xs ≡ neg_ℤ (total_by f xs)
total_by-neg f [] = refl
total_by-neg f (x ∷ xs) = ap (λ z. neg_ℤ (f x) +ℤ z) (total_by-neg f xs) ∙ sym (neg_ℤ-+ℤ (f x) (total_by f xs))

-- what negation leaves of each pair, it leaves of the sum over all pairs
pub pairs_stay : {X : Type 0} (f : X → X → ℤ) (g : X → X) → ((x y : X) → f (g x) (g y) ≡ f x y) → (xs : List X) → total_by_pairs f (map g xs) ≡ total_by_pairs f xs
pairs_stay f g stay xs =
    total_by-map (λ x. total_by (λ y. f x y) (map g xs)) g xs
    ∙ ap (λ k. total_by k xs) (λ i x. total_by-map (λ y. f (g x) y) g xs i)
    ∙ ap (λ k. total_by_pairs k xs) (λ i x y. stay x y i)

-- and of each item, of the sum over all
pub total_stays : {X : Type 0} (f : X → ℤ) (g : X → X) → ((x : X) → f (g x) ≡ f x) → (xs : List X) → total_by f (map g xs) ≡ total_by f xs
total_stays f g stay xs = total_by-map f g xs ∙ ap (λ k. total_by k xs) (λ i x. stay x i)

-- what it turns of each item, it turns of the sum
pub total_turns : {X : Type 0} (f : X → ℤ) (g : X → X) → ((x : X) → f (g x) ≡ neg_ℤ (f x)) → (xs : List X) → total_by f (map g xs) ≡ neg_ℤ (total_by f xs)
total_turns f g turn xs = total_by-map f g xs ∙ ap (λ k. total_by k xs) (λ i x. turn x i) ∙ total_by-neg f xs
