-- A sum over all ordered pairs that has nothing but one row and its column.
use Rattle.std.proofs.Common.{◌≡◌, ◌≢◌, ℕ, zero, suc, ◌<◌, ◌==◌, if◌then◌else◌, ℤ, pos, ◌+ℤ◌, refl, sym, ap, ◌∙◌, arith, ⊎_elim}
use Rattle.std.proofs.lemmas.Bool.{cases_lt}
use Rattle.std.proofs.lemmas.Bool.Decides.{nat_tests}
use Rattle.std.proofs.lemmas.Int.{ints}
use Rattle.pair_sum.specs.PairTotal.{sum_below}
use Rattle.pair_sum.proofs.Sums.{sum_below-ext}
use Rattle.pair_sum.proofs.Squares.{square}

-- two sums that differ at one place
sum_below-but_one : (f g : ℕ → ℤ) (k n : ℕ) → k < n → ((i : ℕ) → i < n → i ≢ k → f i ≡ g i) → g k ≡ pos 0 → sum_below f n ≡ sum_below g n +ℤ f k
sum_below-but_one f g k zero inside same none = absurd (omega arith)
sum_below-but_one f g k (suc n) inside same none =
    ⊎_elim (λ below. let rest = sum_below-but_one f g k n below (λ i p. same i (omega arith)) none in let last = same n (omega arith) (λ e. omega arith) in omega (arith, ints, rest, last))
    (λ above.
    let at : n ≡ k = omega arith in
    let rest = sum_below-ext f g n (λ i p. same i (omega arith) (λ e. omega arith)) in
    let last = ap f at in
    let zeroed : g n ≡ pos 0 = ap g at ∙ none in
    omega (arith, ints, rest, last, zeroed)) (cases_lt k n)

pub sum_below-none : (n : ℕ) → sum_below (λ _. pos 0) n ≡ pos 0
sum_below-none zero = refl
sum_below-none (suc n) = omega (arith, ints, sum_below-none n)

-- the other places of row k
abbrev pub others : (ℕ → ℕ → ℤ) → ℕ → ℕ → ℤ
others f k j = if k == j then pos 0 else f k j

others_apart : (f : ℕ → ℕ → ℤ) (k j : ℕ) → j ≢ k → others f k j ≡ f k j
others_apart f k j h = grind (arith, nat_tests)

others_own : (f : ℕ → ℕ → ℤ) (k : ℕ) → others f k k ≡ pos 0
others_own f k = grind (arith, nat_tests)

-- a symmetric square with nothing but a row and its column
pub cross : (f : ℕ → ℕ → ℤ) (k n : ℕ) → k < n → ((i j : ℕ) → i < n → j < n → f i j ≡ f j i) → ((i j : ℕ) → i < n → j < n → i ≢ k → j ≢ k → f i j ≡ pos 0) → square f n ≡ sum_below (others f k) n +ℤ sum_below (others f k) n +ℤ f k k
cross f k n inside symmetric none =
    let row : sum_below (f k) n ≡ sum_below (others f k) n +ℤ f k k = sum_below-but_one (f k) (others f k) k n inside (λ j p ne. sym (others_apart f k j ne)) (others_own f k) in
    let column : (i : ℕ) → i < n → i ≢ k → sum_below (f i) n ≡ others f k i = λ i p ne.
    let only = sum_below-but_one (f i) (λ _. pos 0) k n inside (λ j q nej. none i j p q ne nej) refl in
    let turned = symmetric i k p inside in
    let at = others_apart f k i ne in
    omega (arith, ints, only, sum_below-none n, turned, at) in
    let all : square f n ≡ sum_below (others f k) n +ℤ sum_below (f k) n = sum_below-but_one (λ i. sum_below (f i) n) (others f k) k n inside column (others_own f k) in
    omega (arith, ints, row, all)
