-- Two lists that are alike place by place.
use Rattle.std.proofs.Common.{◌≡◌, ℕ, suc, ◌+◌, ◌<◌, List, [], ◌∷◌, ◌++◌, take, map, length, get_or, Bool, true, false, cond, refl, sym, ap, ◌∙◌, subst, ℤ, ◌+ℤ◌, All, arith}
use Rattle.std.specs.List.{filter}
use Rattle.std.proofs.lemmas.List.{get_or_default, map_more}
use Rattle.simm_params.specs.SimmRules.Sums.{total_by}

pub maps_alike : {X Y B : Type 0} (f : X → B) (g : Y → B) (xs : List X) (ys : List Y) (d : X) (e : Y) → length xs ≡ length ys → ((k : ℕ) → k < length ys → f (get_or xs k d) ≡ g (get_or ys k e)) → map f xs ≡ map g ys
maps_alike f g [] [] d e n h = refl
maps_alike f g [] (y ∷ ys) d e n h = absurd (omega arith)
maps_alike f g (x ∷ xs) [] d e n h = absurd (omega arith)
maps_alike f g (x ∷ xs) (y ∷ ys) d e n h =
    ap (λ z. z ∷ map f xs) (h 0 (omega arith)) ∙ ap (λ zs. g y ∷ zs) (maps_alike f g xs ys d e (omega arith) (λ k l. h (suc k) (omega arith)))

-- the sum over those that pass a test
pub totals_alike : {X Y : Type 0} (f : X → ℤ) (g : Y → ℤ) (p : X → Bool) (q : Y → Bool) (xs : List X) (ys : List Y) (d : X) (e : Y) → length xs ≡ length ys → ((k : ℕ) → k < length ys → f (get_or xs k d) ≡ g (get_or ys k e)) → ((k : ℕ) → k < length ys → p (get_or xs k d) ≡ q (get_or ys k e)) → total_by f (filter p xs) ≡ total_by g (filter q ys)
totals_alike f g p q [] [] d e n h t = refl
totals_alike f g p q [] (y ∷ ys) d e n h t = absurd (omega arith)
totals_alike f g p q (x ∷ xs) [] d e n h t = absurd (omega arith)
totals_alike f g p q (x ∷ xs) (y ∷ ys) d e n h t =
    ap (λ b. total_by f (cond b (x ∷ filter p xs) (filter p xs))) (t 0 (omega arith))
    ∙ at (q y) (totals_alike f g p q xs ys d e (omega arith) (λ k l. h (suc k) (omega arith)) (λ k l. t (suc k) (omega arith)))
  where
    at : (b : Bool) → total_by f (filter p xs) ≡ total_by g (filter q ys) → total_by f (cond b (x ∷ filter p xs) (filter p xs)) ≡ total_by g (cond b (y ∷ filter q ys) (filter q ys))
    at true i = ap (λ z. z +ℤ total_by f (filter p xs)) (h 0 (omega arith)) ∙ ap (λ z. g y +ℤ z) i
    at false i = i

-- what is so at each place
pub all_at : {X : Type 0} (P : X → Type 0) (xs : List X) (d : X) → ((k : ℕ) → k < length xs → P (get_or xs k d)) → All P xs
all_at P xs d f = λ k e h. subst P (get_or_default xs k d e h) (f k h)

-- one more of those that are made place by place
pub made_more : {X Y : Type 0} (f : X → Y) (xs : List X) (place : ℕ) (d : X) (made more : List Y) (y : Y) → place < length xs → made ≡ map f (take place xs) → more ≡ made ++ y ∷ [] → y ≡ f (get_or xs place d) → more ≡ map f (take (place + 1) xs)
made_more f xs place d made more y h so_far grown is = grown ∙ ap (λ ys. ys ++ y ∷ []) so_far ∙ ap (λ z. map f (take place xs) ++ z ∷ []) is ∙ sym (map_more f xs place d h)
