-- Sums of sizes, and sums over pairs.
use Rattle.std.proofs.Common.{◌≡◌, ℕ, ◌+◌, ◌*◌, ◌≤◌, List, [], ◌∷◌, length, refl, ap, ℤ, pos, ◌*ℤ◌, unsigned_abs, arith}
use Rattle.std.specs.Prelude.{sum_by}
use Rattle.std.proofs.lemmas.Int.{ints}
use Rattle.std.proofs.lemmas.List.Sums.{sum_by-cons}
use Rattle.class_rates.proofs.MhUnits.Integers.{unsigned_abs-add}
use Rattle.class_rates.specs.SimmRules.Sums.{total_by, total_by_pairs}
use Rattle.class_rates.proofs.PairSums.Squares.{term_size}
pub use Rattle.class_rates.proofs.MeasuredBucket.Sizes.{not_negative, total_size, sum_by-map, sum_by-scaled, sum_by-filter}

pub total_by-pos : {X : Type 0} (f : X → ℤ) (g : X → ℕ) (xs : List X) → ((x : X) → f x ≡ pos (g x)) → total_by f xs ≡ pos (sum_by g xs)
total_by-pos f g [] h = refl
total_by-pos f g (x ∷ xs) h = omega (arith, ints, h x, total_by-pos f g xs h, sum_by-cons g x xs)

pub sum_by-below : {X : Type 0} (f g : X → ℕ) (xs : List X) → ((x : X) → f x ≤ g x) → sum_by f xs ≤ sum_by g xs
sum_by-below f g [] h = omega arith
sum_by-below f g (x ∷ xs) h = omega (arith, h x, sum_by-below f g xs h, sum_by-cons f x xs, sum_by-cons g x xs)

pub sum_by-agrees : {X : Type 0} (f g : X → ℕ) (xs : List X) → ((x : X) → f x ≡ g x) → sum_by f xs ≡ sum_by g xs
sum_by-agrees f g [] h = refl
sum_by-agrees f g (x ∷ xs) h = omega (arith, h x, sum_by-agrees f g xs h, sum_by-cons f x xs, sum_by-cons g x xs)

pub sum_by-shifted : {X : Type 0} (f g : X → ℕ) (c d : ℕ) (xs : List X) → sum_by (λ x. f x * c + g x * d) xs ≡ sum_by f xs * c + sum_by g xs * d
sum_by-shifted f g c d [] = omega arith
sum_by-shifted f g c d (x ∷ xs) =
    let whole : sum_by (λ y. f y * c + g y * d) (x ∷ xs) ≡ (f x * c + g x * d) + sum_by (λ y. f y * c + g y * d) xs = sum_by-cons (λ y. f y * c + g y * d) x xs in
    let part : sum_by f (x ∷ xs) * c ≡ (f x + sum_by f xs) * c = ap (λ n. n * c) (sum_by-cons f x xs) in
    let other : sum_by g (x ∷ xs) * d ≡ (g x + sum_by g xs) * d = ap (λ n. n * d) (sum_by-cons g x xs) in
    omega (arith, sum_by-shifted f g c d xs)

pub sum_by-ones : {X : Type 0} (xs : List X) → sum_by (λ x. 1) xs ≡ length xs
sum_by-ones [] = refl
sum_by-ones (x ∷ xs) = omega (arith, sum_by-ones xs, sum_by-cons (λ y. 1) x xs)

-- ---- sums over pairs

module _ {A : Type 0} (C : A → A → ℤ) (W : A → ℤ) (small : (k l : A) → unsigned_abs (C k l) ≤ 1000000) where
  abbrev sizes : List A → ℕ
  sizes ks = sum_by (λ k. unsigned_abs (W k)) ks

  row : (k : A) (ls : List A) → unsigned_abs (total_by (λ l. C k l *ℤ W k *ℤ W l) ls) ≤ 1000000 * (unsigned_abs (W k) * sizes ls)
  row k [] = omega arith
  row k (l ∷ ls) =
      let own = term_size (C k l) (W k) (W l) (small k l) in
      let whole : unsigned_abs (W k) * sizes (l ∷ ls) ≡ unsigned_abs (W k) * (unsigned_abs (W l) + sizes ls) = ap (λ n. unsigned_abs (W k) * n) (sum_by-cons (λ x. unsigned_abs (W x)) l ls) in
      omega (arith, row k ls, unsigned_abs-add (C k l *ℤ W k *ℤ W l) (total_by (λ x. C k x *ℤ W k *ℤ W x) ls))

  rows : (ks ls : List A) → unsigned_abs (total_by (λ k. total_by (λ l. C k l *ℤ W k *ℤ W l) ls) ks) ≤ 1000000 * (sizes ks * sizes ls)
  rows [] ls = omega arith
  rows (k ∷ ks) ls =
      let whole : sizes (k ∷ ks) * sizes ls ≡ (unsigned_abs (W k) + sizes ks) * sizes ls = ap (λ n. n * sizes ls) (sum_by-cons (λ x. unsigned_abs (W x)) k ks) in
      omega (arith, row k ls, rows ks ls, unsigned_abs-add (total_by (λ l. C k l *ℤ W k *ℤ W l) ls) (total_by (λ x. total_by (λ l. C x l *ℤ W x *ℤ W l) ls) ks))

  -- products of amounts by correlations are at most the square of the amounts
  pub pairs_size : (ks : List A) → unsigned_abs (total_by_pairs (λ k l. C k l *ℤ W k *ℤ W l) ks) ≤ 1000000 * (sizes ks * sizes ks)
  pairs_size ks = rows ks ks
