-- Sums over lists of sensitivities.
use Rattle.std.proofs.Common.{◌≡◌, ℕ, suc, ◌+◌, ◌*◌, ◌^◌, ◌<◌, ◌≤◌, List, [], ◌∷◌, ◌++◌, map, length, Bool, true, false, cond, refl, ap, ◌∙◌, ℤ, pos, negsuc, ◌+ℤ◌, ◌-ℤ◌, unsigned_abs, to_z, of_z, arith}
use Rattle.std.specs.List.{AllByRecursion, sum_by}
use Rattle.std.specs.List.Sorted.{IsPermutation}
use Rattle.std.specs.Int.{w128}
use Rattle.std.proofs.lemmas.Int.{ints, to_z-of_z, fits_signed_from_abs}
use Rattle.std.proofs.lemmas.List.Sorted.{sum_by-IsPermutation}
use Rattle.std.proofs.lemmas.List.Sums.{sum_by-cons}
use Rattle.simm_rules.proofs.MhUnits.Integers.{unsigned_abs-add}
use Rattle.simm_rules.specs.Sums.{total_by}

pub total_by-append : {A : Type 0} (f : A → ℤ) (xs ys : List A) → total_by f (xs ++ ys) ≡ total_by f xs +ℤ total_by f ys
total_by-append f [] ys = omega (arith, ints)
total_by-append f (x ∷ xs) ys = omega (arith, ints, total_by-append f xs ys)

pub total_by-map : {A B : Type 0} (f : B → ℤ) (g : A → B) (xs : List A) → total_by f (map g xs) ≡ total_by (λ x. f (g x)) xs
total_by-map f g [] = refl
total_by-map f g (x ∷ xs) = ap (λ n. f (g x) +ℤ n) (total_by-map f g xs)

pub total_by-agree : {A : Type 0} (f g : A → ℤ) → ((x : A) → f x ≡ g x) → (xs : List A) → total_by f xs ≡ total_by g xs
total_by-agree f g h [] = refl
total_by-agree f g h (x ∷ xs) = λ i. h x i +ℤ total_by-agree f g h xs i

pub total_by-add : {A : Type 0} (f g : A → ℤ) (xs : List A) → total_by (λ x. f x +ℤ g x) xs ≡ total_by f xs +ℤ total_by g xs
total_by-add f g [] = refl
total_by-add f g (x ∷ xs) = omega (arith, ints, total_by-add f g xs)

pub total_by-none : {A : Type 0} (f : A → ℤ) (xs : List A) → length xs ≡ 0 → total_by f xs ≡ pos 0
total_by-none f [] e = refl
total_by-none f (x ∷ xs) e = absurd (omega arith)

pub total_by-kept : {A : Type 0} (f : A → ℤ) (x : A) (xs : List A) (t : Bool) → total_by f (cond t (x ∷ xs) xs) ≡ cond t (f x) (pos 0) +ℤ total_by f xs
total_by-kept f x xs true = refl
total_by-kept f x xs false = omega (arith, ints)

-- a sum of terms of at most m in size
pub total_by-size : {A : Type 0} (f : A → ℤ) (m : ℕ) (xs : List A) → AllByRecursion (λ x. unsigned_abs (f x) ≤ m) xs → unsigned_abs (total_by f xs) ≤ length xs * m
total_by-size f m [] h = omega arith
total_by-size f m (x ∷ xs) h = omega (arith, h.0, total_by-size f m xs h.1, unsigned_abs-add (f x) (total_by f xs))

-- sums of fewer than 2^32 amounts that a batch can have are added with no loss
pub sum128 : (a b : ℤ) (m n : ℕ) → unsigned_abs a ≤ m * 10 ^ 15 → unsigned_abs b ≤ n * 10 ^ 15 → m + n < 2 ^ 32
    → to_z w128 (of_z w128 (to_z w128 (of_z w128 a) +ℤ to_z w128 (of_z w128 b))) ≡ a +ℤ b
sum128 a b m n few_a few_b few =
    (λ i. to_z w128 (of_z w128 (
    to_z-of_z w128 a (fits_signed_from_abs w128 a (omega (arith, few_a, few))) i +ℤ to_z-of_z w128 b (fits_signed_from_abs w128 b (omega (arith, few_b, few))) i
    )))
    ∙ to_z-of_z w128 (a +ℤ b) (fits_signed_from_abs w128 (a +ℤ b) (omega (arith, unsigned_abs-add a b, few_a, few_b, few)))

-- ---- in another order

-- an amount above 0, and the size of one below
above : ℤ → ℕ
above (pos n) = n
above (negsuc n) = 0

below : ℤ → ℕ
below (pos n) = 0
below (negsuc n) = suc n

split_sign : (z : ℤ) → z ≡ pos (above z) -ℤ pos (below z)
unfolding above below
split_sign (pos n) = omega (arith, ints)
split_sign (negsuc n) = omega (arith, ints)

total_by-signs : {A : Type 0} (f : A → ℤ) (xs : List A) → total_by f xs ≡ pos (sum_by (λ x. above (f x)) xs) -ℤ pos (sum_by (λ x. below (f x)) xs)
total_by-signs f [] = omega (arith, ints)
total_by-signs f (x ∷ xs) = omega (arith, ints, split_sign (f x), total_by-signs f xs, sum_by-cons (λ y. above (f y)) x xs, sum_by-cons (λ y. below (f y)) x xs)

pub total_by-IsPermutation : {A : Type 0} (f : A → ℤ) (xs ys : List A) → IsPermutation xs ys → total_by f xs ≡ total_by f ys
total_by-IsPermutation f xs ys h =
    omega (arith, ints, total_by-signs f xs, total_by-signs f ys, sum_by-IsPermutation (λ x. above (f x)) xs ys h, sum_by-IsPermutation (λ x. below (f x)) xs ys h)
