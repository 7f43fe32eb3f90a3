-- Sums over places: term by term, over a sum of two, from the front, and over the items of a list; and sums of sizes.
use Rattle.std.proofs.Common.{◌≡◌, ℕ, zero, suc, ◌+◌, ◌<◌, ◌≤◌, List, [], ◌∷◌, map, length, get_or, ℤ, pos, ◌+ℤ◌, unsigned_abs, sum_by, All, refl, sym, ap, ◌∙◌, subst, arith, le_refl, ⊎_elim}
use Rattle.std.proofs.lemmas.Bool.{cases_lt}
use Rattle.std.proofs.lemmas.List.{get_or-map}
use Rattle.std.proofs.lemmas.List.Sums.{sum_by-cons}
use Rattle.std.proofs.lemmas.Int.{ints}
use Rattle.simm_rules.specs.Sums.{total_by}
use Rattle.pair_sum.specs.PairTotal.{sum_below, at_place}

pub sum_below-ext : (f g : ℕ → ℤ) (n : ℕ) → ((i : ℕ) → i < n → f i ≡ g i) → sum_below f n ≡ sum_below g n
sum_below-ext f g zero h = refl
sum_below-ext f g (suc n) h =
    let rest = sum_below-ext f g n (λ i below. h i (omega arith)) in let last = h n (omega arith) in ap (λ z. z +ℤ f n) rest ∙ ap (λ z. sum_below g n +ℤ z) last

pub sum_below-add : (f g : ℕ → ℤ) (n : ℕ) → sum_below (λ i. f i +ℤ g i) n ≡ sum_below f n +ℤ sum_below g n
sum_below-add f g zero = refl
sum_below-add f g (suc n) = omega (arith, ints, sum_below-add f g n)

pub sum_below-front : (f : ℕ → ℤ) (n : ℕ) → sum_below f (suc n) ≡ f 0 +ℤ sum_below (λ i. f (suc i)) n
sum_below-front f zero = omega (arith, ints)
sum_below-front f (suc n) = omega (arith, ints, sum_below-front f n)

-- the sum over a list is that over its places
pub total_by-places : {A : Type 0} (f : A → ℤ) (xs : List A) (d : A) (g : ℕ → ℤ) → ((i : ℕ) → i < length xs → g i ≡ f (get_or xs i d)) → sum_below g (length xs) ≡ total_by f xs
total_by-places f [] d g h = refl
total_by-places f (x ∷ xs) d g h =
    sum_below-front g (length xs) ∙ ap (λ z. z +ℤ sum_below (λ i. g (suc i)) (length xs)) (h 0 (omega arith)) ∙ ap (λ z. f x +ℤ z) (total_by-places f xs d (λ i. g (suc i)) (λ i below. h (suc i) (omega arith)))

pub total_by-ext : {A : Type 0} (f g : A → ℤ) (xs : List A) → ((x : A) → f x ≡ g x) → total_by f xs ≡ total_by g xs
total_by-ext f g [] h = refl
total_by-ext f g (x ∷ xs) h = ap (λ z. z +ℤ total_by f xs) (h x) ∙ ap (λ z. g x +ℤ z) (total_by-ext f g xs h)

-- ---- sizes

-- the sum of the sizes of f 0 .. f (n - 1)
abbrev pub sizes_below : (ℕ → ℤ) → ℕ → ℕ
sizes_below f zero = 0
sizes_below f (suc n) = sizes_below f n + unsigned_abs (f n)

pub sizes_below-front : (f : ℕ → ℤ) (n : ℕ) → sizes_below f (suc n) ≡ unsigned_abs (f 0) + sizes_below (λ i. f (suc i)) n
sizes_below-front f zero = omega arith
sizes_below-front f (suc n) = omega (arith, sizes_below-front f n)

-- those of all amounts
pub sizes_below-all : {A : Type 0} (f : A → ℤ) (xs : List A) → sizes_below (at_place (map f xs)) (length xs) ≡ sum_by (λ x. unsigned_abs (f x)) xs
sizes_below-all f [] = refl
sizes_below-all f (x ∷ xs) =
    let front : sizes_below (at_place (map f (x ∷ xs))) (suc (length xs)) ≡ unsigned_abs (f x) + sizes_below (at_place (map f xs)) (length xs) = sizes_below-front (at_place (map f (x ∷ xs))) (length xs) in
    front ∙ ap (λ n. unsigned_abs (f x) + n) (sizes_below-all f xs) ∙ sym (sum_by-cons (λ y. unsigned_abs (f y)) x xs)

pub sizes_below-mono : (f : ℕ → ℤ) (m n : ℕ) → m ≤ n → sizes_below f m ≤ sizes_below f n
sizes_below-mono f m zero h = let none : m ≡ 0 = omega arith in subst (λ k. sizes_below f k ≤ 0) (sym none) (omega arith)
sizes_below-mono f m (suc n) h =
    ⊎_elim (λ below. omega (arith, sizes_below-mono f m n (omega arith))) (λ above. let all : m ≡ suc n = omega arith in subst (λ k. sizes_below f k ≤ sizes_below f (suc n)) (sym all) (le_refl (sizes_below f (suc n)))) (cases_lt m (suc n))

-- one of the amounts
pub amount_le : (f : ℕ → ℤ) (i n : ℕ) → i < n → unsigned_abs (f i) ≤ sizes_below f n
amount_le f i n h = omega (arith, sizes_below-mono f (suc i) n h)

-- the amount at a place is that of the item there
pub at_place-map : {A : Type 0} (f : A → ℤ) (xs : List A) (i : ℕ) (x : A) → i < length xs → x ≡ get_or xs i x → at_place (map f xs) i ≡ f x
at_place-map f xs i x h e = get_or-map f xs i x (pos 0) h ∙ ap f (sym e)

pub sizes_below-le : (f g : ℕ → ℤ) (n : ℕ) → ((i : ℕ) → i < n → unsigned_abs (f i) ≤ unsigned_abs (g i)) → sizes_below f n ≤ sizes_below g n
sizes_below-le f g zero h = omega arith
sizes_below-le f g (suc n) h = omega (arith, sizes_below-le f g n (λ i below. h i (omega arith)), h n (omega arith))

-- what holds of each item's two amounts holds of those at each place
pub at_place-le : {A : Type 0} (f g : A → ℤ) (xs : List A) → All (λ x. unsigned_abs (f x) ≤ unsigned_abs (g x)) xs → (i : ℕ) → i < length xs → unsigned_abs (at_place (map f xs) i) ≤ unsigned_abs (at_place (map g xs) i)
at_place-le f g [] all i h = absurd (omega arith)
at_place-le f g (x ∷ xs) all i h =
    let left = get_or-map f (x ∷ xs) i x (pos 0) h in
    let right = get_or-map g (x ∷ xs) i x (pos 0) h in
    subst (λ z. unsigned_abs z ≤ unsigned_abs (at_place (map g (x ∷ xs)) i)) (sym left) (subst (λ z. unsigned_abs (f (get_or (x ∷ xs) i x)) ≤ unsigned_abs z) (sym right) (all i x h))
