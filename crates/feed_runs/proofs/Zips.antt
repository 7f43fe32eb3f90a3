-- Two lists beside each other, place by place.
use Rattle.std.proofs.Common.{◌≡◌, ℕ, zero, suc, ◌<◌, arith, List, [], ◌∷◌, ◌++◌, length, map, slice_index_or, Some, refl, sym, ap, ◌∙◌, subst}
use Rattle.std.specs.List.{AllZip, slice_get}
use Rattle.std.proofs.lemmas.List.{length-map}
use Rattle.std.proofs.lemmas.Option.{none-some, same_Some}

pub some_at : {X : Type 0} (xs : List X) (k : ℕ) → k < length xs → (x : X) × (slice_get xs k ≡ Some x)
some_at [] k within = absurd (omega (arith, within))
some_at (x ∷ xs) zero within = (x, refl)
some_at (x ∷ xs) (suc k) within = some_at xs k (omega (arith, within))

pub zip_append : {X Y : Type 0} (R : X → Y → Type 0) (xs : List X) (ys : List Y) (us : List X) (vs : List Y) → AllZip R xs ys → AllZip R us vs → AllZip R (xs ++ us) (ys ++ vs)
zip_append R [] [] us vs p q = q
zip_append R [] (y ∷ ys) us vs p q = absurd p
zip_append R (x ∷ xs) [] us vs p q = absurd p
zip_append R (x ∷ xs) (y ∷ ys) us vs p q = (p.0, zip_append R xs ys us vs p.1 q)

pub zip_length : {X Y : Type 0} (R : X → Y → Type 0) (xs : List X) (ys : List Y) → AllZip R xs ys → length ys ≡ length xs
zip_length R [] [] all = refl
zip_length R [] (y ∷ ys) all = absurd all
zip_length R (x ∷ xs) [] all = absurd all
zip_length R (x ∷ xs) (y ∷ ys) all = omega (arith, zip_length R xs ys all.1)

pub zip_get : {X Y : Type 0} (R : X → Y → Type 0) (xs : List X) (ys : List Y) (k : ℕ) (x : X) → AllZip R xs ys → slice_get xs k ≡ Some x → (y : Y) × (slice_get ys k ≡ Some y) × R x y
zip_get R [] ys k x all at = absurd (none-some x at)
zip_get R (a ∷ xs) [] k x all at = absurd all
zip_get R (a ∷ xs) (b ∷ ys) zero x all at = (b, refl, subst (λ z. R z b) (same_Some a x at) all.0)
zip_get R (a ∷ xs) (b ∷ ys) (suc k) x all at = zip_get R xs ys k x all.1 at

pub zip_at : {X Y : Type 0} (R : X → Y → Type 0) (xs : List X) (ys : List Y) (k : ℕ) (x : X) (y : Y) → AllZip R xs ys → slice_get xs k ≡ Some x → slice_get ys k ≡ Some y → R x y
zip_at R xs ys k x y all at_x at_y =
    let found = zip_get R xs ys k x all at_x in
    subst (λ z. R x z) (same_Some found.0 y (sym found.1 ∙ at_y)) found.2

pub zip_places : {X Y : Type 0} (R : X → Y → Type 0) (xs : List X) (ys : List Y) → length ys ≡ length xs → ((k : ℕ) (x : X) (y : Y) → slice_get xs k ≡ Some x → slice_get ys k ≡ Some y → R x y) → AllZip R xs ys
zip_places R [] [] same each = tt
zip_places R [] (y ∷ ys) same each = absurd (omega (arith, same))
zip_places R (x ∷ xs) [] same each = absurd (omega (arith, same))
zip_places R (x ∷ xs) (y ∷ ys) same each = (each 0 x y refl refl, zip_places R xs ys (omega (arith, same)) (λ k. each (suc k)))

pub zip_each : {X : Type 0} (R : X → X → Type 0) (xs ys : List X) → length ys ≡ length xs → ((k : ℕ) (d : X) → k < length xs → R (slice_index_or xs k d) (slice_index_or ys k d)) → AllZip R xs ys
zip_each R [] [] same each = tt
zip_each R [] (y ∷ ys) same each = absurd (omega (arith, same))
zip_each R (x ∷ xs) [] same each = absurd (omega (arith, same))
zip_each R (x ∷ xs) (y ∷ ys) same each = (each 0 x (omega arith), zip_each R xs ys (omega (arith, same)) (λ k d within. each (suc k) d (omega (arith, within))))

pub zip_weaker : {X Y : Type 0} (P Q : X → Y → Type 0) → ((x : X) (y : Y) → P x y → Q x y) → (xs : List X) (ys : List Y) → AllZip P xs ys → AllZip Q xs ys
zip_weaker P Q so [] [] all = tt
zip_weaker P Q so [] (y ∷ ys) all = absurd all
zip_weaker P Q so (x ∷ xs) [] all = absurd all
zip_weaker P Q so (x ∷ xs) (y ∷ ys) all = (so x y all.0, zip_weaker P Q so xs ys all.1)

-- two lists that give one list are as long as each other
pub map_lengths : {V W X : Type 0} (f : V → X) (g : W → X) (xs : List V) (ys : List W) → map f xs ≡ map g ys → length xs ≡ length ys
map_lengths f g xs ys same = sym (length-map xs f) ∙ ap length same ∙ length-map ys g

-- what stands behind a front
pub behind_front : {X : Type 0} (front back xs : List X) (x : X) (m : ℕ) → length front ≡ m → (front ++ x ∷ []) ++ back ≡ xs → slice_get xs m ≡ Some x
behind_front [] back xs x m long is = subst (λ k. slice_get xs k ≡ Some x) long (subst (λ ys. slice_get ys 0 ≡ Some x) is refl)
behind_front (y ∷ front) back [] x m long is = absurd (cc (is))
behind_front (y ∷ front) back (z ∷ xs) x zero long is = absurd (omega (arith, long))
behind_front (y ∷ front) back (z ∷ xs) x (suc m) long is = behind_front front back xs x m (omega (arith, long)) (cc (is))
