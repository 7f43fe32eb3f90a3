-- Sums of sizes, how far roundings are off, and what a bucket in range comes to.
use Rattle.std.proofs.Common.{◌≡◌, ◌^◌, ℕ, zero, suc, ◌+◌, ◌*◌, ◌/◌, ◌<◌, ◌≤◌, List, [], ◌∷◌, map, length, Bool, true, false, cond, refl, ap, subst, ℤ, pos, negsuc, ◌*ℤ◌, ◌≤ℤ◌, unsigned_abs, arith}
use Rattle.std.specs.Prelude.{sum_by}
use Rattle.std.specs.List.{filter, AllByRecursion}
use Rattle.std.proofs.lemmas.Int.{ints}
use Rattle.std.proofs.lemmas.Nat.{div-add-mod'}
use Rattle.std.proofs.lemmas.List.Sums.{sum_by-cons}
use Rattle.simm_params.specs.MhUnits.Rounding.{away}
use Rattle.simm_params.proofs.MhUnits.Integers.{unsigned_abs-add, unsigned_abs-neg}
use Rattle.simm_params.specs.SimmRules.Sums.{total_by}
use Rattle.simm_params.specs.SimmRules.Risks.{Amount}
use Rattle.simm_params.specs.SimmRules.Gross.{size_by}
use Rattle.measured_bucket.specs.Values.{IsInRange, IsSmall, AreSmall}
use Rattle.measured_bucket.proofs.Lists.{each_always, each_weaker, each_map}

-- ---- sums of sizes

pub sum_by-map : {X A : Type 0} (f : A → ℕ) (g : X → A) (xs : List X) → sum_by f (map g xs) ≡ sum_by (λ x. f (g x)) xs
sum_by-map f g [] = refl
sum_by-map f g (x ∷ xs) = omega (arith, sum_by-map f g xs, sum_by-cons f (g x) (map g xs), sum_by-cons (λ y. f (g y)) x xs)

pub total_size : {X : Type 0} (f : X → ℤ) (xs : List X) → unsigned_abs (total_by f xs) ≤ sum_by (λ x. unsigned_abs (f x)) xs
total_size f [] = omega arith
total_size f (x ∷ xs) =
    omega (arith, unsigned_abs-add (f x) (total_by f xs), total_size f xs, sum_by-cons (λ y. unsigned_abs (f y)) x xs)

total_by-pos : {X : Type 0} (f : X → ℤ) (g : X → ℕ) (xs : List X) → AllByRecursion (λ x. f x ≡ pos (g x)) xs → total_by f xs ≡ pos (sum_by g xs)
total_by-pos f g [] h = refl
total_by-pos f g (x ∷ xs) h = omega (arith, ints, h.0, total_by-pos f g xs h.1, sum_by-cons g x xs)

pub sum_by-below : {X : Type 0} (f g : X → ℕ) (xs : List X) → AllByRecursion (λ x. f x ≤ g x) xs → sum_by f xs ≤ sum_by g xs
sum_by-below f g [] h = omega arith
sum_by-below f g (x ∷ xs) h = omega (arith, h.0, sum_by-below f g xs h.1, sum_by-cons f x xs, sum_by-cons g x xs)

pub sum_by-scaled : {X : Type 0} (f : X → ℕ) (c : ℕ) (xs : List X) → sum_by (λ x. f x * c) xs ≡ sum_by f xs * c
sum_by-scaled f c [] = omega arith
sum_by-scaled f c (x ∷ xs) =
    let whole : sum_by (λ y. f y * c) (x ∷ xs) ≡ f x * c + sum_by (λ y. f y * c) xs = sum_by-cons (λ y. f y * c) x xs in
    let part : sum_by f (x ∷ xs) * c ≡ (f x + sum_by f xs) * c = ap (λ n. n * c) (sum_by-cons f x xs) in
    omega (arith, sum_by-scaled f c xs)

pub sum_by-shifted : {X : Type 0} (f : X → ℕ) (c d : ℕ) (xs : List X) → sum_by (λ x. f x * c + d) xs ≡ sum_by f xs * c + length xs * d
sum_by-shifted f c d [] = omega arith
sum_by-shifted f c d (x ∷ xs) =
    let whole : sum_by (λ y. f y * c + d) (x ∷ xs) ≡ (f x * c + d) + sum_by (λ y. f y * c + d) xs = sum_by-cons (λ y. f y * c + d) x xs in
    let part : sum_by f (x ∷ xs) * c ≡ (f x + sum_by f xs) * c = ap (λ n. n * c) (sum_by-cons f x xs) in
    let count : suc (length xs) * d ≡ d + length xs * d = omega arith in
    omega (arith, sum_by-shifted f c d xs)

split_step : {X : Type 0} (f : X → ℕ) (t : Bool) (x : X) (ys : List X) → sum_by f (cond t (x ∷ ys) ys) ≤ f x + sum_by f ys
split_step f true x ys = omega (arith, sum_by-cons f x ys)
split_step f false x ys = omega arith

-- what a filter keeps is no more than all
pub sum_by-filter : {X : Type 0} (f : X → ℕ) (p : X → Bool) (xs : List X) → sum_by f (filter p xs) ≤ sum_by f xs
sum_by-filter f p [] = omega arith
sum_by-filter f p (x ∷ xs) = omega (arith, split_step f (p x) x (filter p xs), sum_by-filter f p xs, sum_by-cons f x xs)

-- each is at most the sum
pub each_within : {X : Type 0} (f : X → ℕ) (n : ℕ) (xs : List X) → sum_by f xs ≤ n → AllByRecursion (λ x. f x ≤ n) xs
each_within f n [] h = tt
each_within f n (x ∷ xs) h = (omega (arith, sum_by-cons f x xs), each_within f n xs (omega (arith, sum_by-cons f x xs)))

-- ---- roundings

pub away_size_close : (a : ℤ) (b : ℕ) → 0 < b → unsigned_abs (away a (pos b)) * b ≤ unsigned_abs a + b
away_size_close (pos zero) b h =
    let none : unsigned_abs (away (pos 0) (pos b)) * b ≡ 0 / b * b = ap (λ n. n * b) (unsigned_abs-neg (pos (0 / b))) in omega (arith, div-add-mod' 0 b)
away_size_close (pos (suc m)) b h = omega (arith, ints, div-add-mod' m b)
away_size_close (negsuc m) b h = omega (arith, ints, div-add-mod' m b)

pub not_negative : (z : ℤ) → pos 0 ≤ℤ z → z ≡ pos (unsigned_abs z)
not_negative (pos n) h = refl
not_negative (negsuc n) h = absurd h.le

-- ---- a bucket in range

module _ {A : Type 0} (weight : A → ℤ) where
  abbrev pub size_one : Amount A → ℕ
  size_one a = unsigned_abs a.amount * unsigned_abs (weight a.of)

  -- the weighted size of a bucket
  abbrev pub size_all : List (Amount A) → ℕ
  size_all amounts = sum_by size_one amounts

  module _ (positive : (x : A) → pos 0 ≤ℤ weight x) (amounts : List (Amount A)) where
    pub size_is : size_by weight amounts ≡ pos (size_all amounts)
    size_is =
        total_by-pos (λ (a : Amount A). pos (unsigned_abs a.amount) *ℤ weight a.of) size_one amounts
        (each_always (λ (a : Amount A). pos (unsigned_abs a.amount) *ℤ weight a.of ≡ pos (size_one a)) (λ a. ap (λ w. pos (unsigned_abs a.amount) *ℤ w) (not_negative (weight a.of) (positive a.of))) amounts)

    pub size_small : IsInRange weight amounts → size_all amounts ≤ 10 ^ 17
    size_small range = omega (arith, ints, range.small, size_is)

    pub each_small : IsInRange weight amounts → AreSmall weight amounts
    each_small range = each_within size_one (10 ^ 17) amounts (size_small range)

    pub nets_small : IsInRange weight amounts → (w : ℤ) → ((x : A) → weight x ≡ w) → AllByRecursion (IsSmall w) (map (λ a. a.amount) amounts)
    nets_small range w same =
        each_map (IsSmall w) (λ (a : Amount A). a.amount) amounts
        (each_weaker (λ (a : Amount A). IsSmall (weight a.of) a.amount) (λ a. IsSmall w a.amount) (λ a its. subst (λ z. IsSmall z a.amount) (same a.of) its) amounts (each_small range))
