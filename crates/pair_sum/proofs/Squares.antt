-- A sum over all ordered pairs, one row more at a time; and how large such a sum of products can be.
use Rattle.std.proofs.Common.{◌≡◌, ℕ, zero, suc, ◌+◌, ◌*◌, ◌^◌, ◌<◌, ◌≤◌, List, length, ℤ, ◌+ℤ◌, ◌*ℤ◌, unsigned_abs, FitsSigned, sym, ap, ◌∙◌, subst, arith, add-one, mul-le-mul_right}
use Rattle.std.proofs.Math.IntN.{*ℤ_comm}
use Rattle.std.proofs.lemmas.Int.{ints, unsigned_abs-mul, fits_signed_from_abs}
use Rattle.std.specs.Int.{w128}
use Rattle.std.proofs.lemmas.Nat.{mul-le}
use Rattle.simm_rules.proofs.MhUnits.Integers.{mul_assoc_ℤ, unsigned_abs-add, product_size}
use Rattle.pair_sum.specs.PairTotal.{sum_below, at_place, term, pair_total}
use Rattle.pair_sum.proofs.Sums.{sum_below-ext, sum_below-add, sizes_below, sizes_below-mono}

-- the sum over all ordered pairs below n
abbrev pub square : (ℕ → ℕ → ℤ) → ℕ → ℤ
square f n = sum_below (λ i. sum_below (λ j. f i j) n) n

-- the part of row n before its own place
abbrev pub row_part : (ℕ → ℕ → ℤ) → ℕ → ℤ
row_part f n = sum_below (λ j. f n j) n

-- one place more: its row, its column and its own term
pub square-suc : (f : ℕ → ℕ → ℤ) (n : ℕ) → ((j : ℕ) → j < n → f j n ≡ f n j) → square f (suc n) ≡ square f n +ℤ (row_part f n +ℤ row_part f n +ℤ f n n)
square-suc f n symmetric =
    let rows : sum_below (λ i. sum_below (λ j. f i j) n +ℤ f i n) n ≡ square f n +ℤ sum_below (λ i. f i n) n = sum_below-add (λ i. sum_below (λ j. f i j) n) (λ i. f i n) n in
    let column : sum_below (λ i. f i n) n ≡ row_part f n = sum_below-ext (λ i. f i n) (λ j. f n j) n symmetric in
    omega (arith, ints, rows, column)

-- the last two factors change places
pub swap_last : (a b c : ℤ) → a *ℤ b *ℤ c ≡ a *ℤ c *ℤ b
swap_last a b c = mul_assoc_ℤ a b c ∙ ap (λ z. a *ℤ z) (*ℤ_comm b c) ∙ sym (mul_assoc_ℤ a c b)

-- the term is the same both ways round where the correlation is
pub term-symmetric : (c : ℕ → ℕ → ℤ) (ws : List ℤ) (i j : ℕ) → c i j ≡ c j i → term c ws i j ≡ term c ws j i
term-symmetric c ws i j e = ap (λ z. z *ℤ at_place ws i *ℤ at_place ws j) e ∙ swap_last (c j i) (at_place ws i) (at_place ws j)

-- ---- sizes, with M for 1 in millionths

pub term_size : (c a b : ℤ) → unsigned_abs c ≤ 1000000 → unsigned_abs (c *ℤ a *ℤ b) ≤ 1000000 * (unsigned_abs a * unsigned_abs b)
term_size c a b h =
    let sizes : unsigned_abs (c *ℤ a *ℤ b) ≡ unsigned_abs c * unsigned_abs a * unsigned_abs b = unsigned_abs-mul (c *ℤ a) b ∙ ap (λ n. n * unsigned_abs b) (unsigned_abs-mul c a) in
    let first : unsigned_abs c * (unsigned_abs a * unsigned_abs b) ≤ 1000000 * (unsigned_abs a * unsigned_abs b) = mul-le-mul_right (unsigned_abs a * unsigned_abs b) h in
    omega (arith, sizes)

-- a part of a row is at most its own amount times the amounts before
pub row_size : (c : ℕ → ℕ → ℤ) (ws : List ℤ) (row n : ℕ) → ((j : ℕ) → j < n → unsigned_abs (c row j) ≤ 1000000) → unsigned_abs (sum_below (λ j. term c ws row j) n) ≤ 1000000 * (unsigned_abs (at_place ws row) * sizes_below (at_place ws) n)
row_size c ws row zero h = omega arith
row_size c ws row (suc n) h =
    let rest = row_size c ws row n (λ j below. h j (omega arith)) in
    let last = term_size (c row n) (at_place ws row) (at_place ws n) (h n (omega arith)) in
    let both = unsigned_abs-add (sum_below (λ j. term c ws row j) n) (term c ws row n) in
    omega arith

-- the sum over all ordered pairs is at most the square of the amounts
pub square_size : (c : ℕ → ℕ → ℤ) (ws : List ℤ) (n : ℕ) → ((i j : ℕ) → i < n → j < n → c i j ≡ c j i) → ((i j : ℕ) → i < n → j < n → unsigned_abs (c i j) ≤ 1000000) → unsigned_abs (square (term c ws) n) ≤ 1000000 * (sizes_below (at_place ws) n * sizes_below (at_place ws) n)
square_size c ws zero symmetric small = omega arith
square_size c ws (suc n) symmetric small =
    let rest = square_size c ws n (λ i j p q. symmetric i j (omega arith) (omega arith)) (λ i j p q. small i j (omega arith) (omega arith)) in
    let row = row_size c ws n n (λ j below. small n j (omega arith) (omega arith)) in
    let own = term_size (c n n) (at_place ws n) (at_place ws n) (small n n (omega arith) (omega arith)) in
    let step = square-suc (term c ws) n (λ j below. term-symmetric c ws j n (symmetric j n (omega arith) (omega arith))) in
    omega (arith, ints, unsigned_abs-add (square (term c ws) n) (row_part (term c ws) n +ℤ row_part (term c ws) n +ℤ term c ws n n), unsigned_abs-add (row_part (term c ws) n +ℤ row_part (term c ws) n) (term c ws n n), unsigned_abs-add (row_part (term c ws) n) (row_part (term c ws) n))

-- amounts below 8.4 * 10^15 have products that fit
pub square_in_range : (n : ℕ) → n < 84 * 10 ^ 14 → 1000000 * (n * n) ≤ 8 * 10 ^ 37
square_in_range n h = let most : n * n ≤ 84 * 10 ^ 14 * (84 * 10 ^ 14) = mul-le n n (84 * 10 ^ 14) (84 * 10 ^ 14) (omega arith) (omega arith) in omega arith

-- the first product of a term, and the term, fit the code's numbers
pub scaled_fits : (c a : ℤ) → unsigned_abs c ≤ 1000000 → unsigned_abs a < 84 * 10 ^ 14 → FitsSigned w128 (c *ℤ a)
scaled_fits c a h k = fits_signed_from_abs w128 (c *ℤ a) (let size = product_size c a 1000000 (84 * 10 ^ 14) h (omega arith) in omega arith)

pub term_fits : (c a b : ℤ) → unsigned_abs c ≤ 1000000 → unsigned_abs a < 84 * 10 ^ 14 → unsigned_abs b < 84 * 10 ^ 14 → FitsSigned w128 (c *ℤ a *ℤ b)
term_fits c a b h k l =
    let size = term_size c a b h in
    let most : unsigned_abs a * unsigned_abs b ≤ 84 * 10 ^ 14 * (84 * 10 ^ 14) = mul-le (unsigned_abs a) (unsigned_abs b) (84 * 10 ^ 14) (84 * 10 ^ 14) (omega arith) (omega arith) in
    fits_signed_from_abs w128 (c *ℤ a *ℤ b) (omega arith)

-- ---- one step of the code's sums

-- what the laws of a correlation say of n places
pub record Correlates (n : ℕ) (c : ℕ → ℕ → ℤ) : Type 0 where
  pub symmetric : (i j : ℕ) → i < n → j < n → c i j ≡ c j i
  pub at_most_one : (i j : ℕ) → i < n → j < n → unsigned_abs (c i j) ≤ 1000000

pub correlates : (c : ℕ → ℕ → ℤ) (m n : ℕ) → m ≡ n → ((i j : ℕ) → i < m → j < m → c i j ≡ c j i) → ((i j : ℕ) → i < m → j < m → unsigned_abs (c i j) ≤ 1000000) → Correlates n c
correlates c m n same symmetric at_most_one = record {
  symmetric = λ i j p q. symmetric i j (omega arith) (omega arith);
  at_most_one = λ i j p q. at_most_one i j (omega arith) (omega arith);
}

-- a square with one row more
pub record SquareStep (c : ℕ → ℕ → ℤ) (ws : List ℤ) (row : ℕ) (sum below own : ℤ) : Type 0 where
  pub twice : unsigned_abs (below +ℤ below) ≤ 8 * 10 ^ 37
  pub added : unsigned_abs (below +ℤ below +ℤ own) ≤ 8 * 10 ^ 37
  pub size : unsigned_abs (sum +ℤ (below +ℤ below +ℤ own)) ≤ 8 * 10 ^ 37
  pub value : sum +ℤ (below +ℤ below +ℤ own) ≡ square (term c ws) (row + 1)

pub square_step : (c : ℕ → ℕ → ℤ) (ws : List ℤ) (n row : ℕ) (sum below own : ℤ) → Correlates n c → sizes_below (at_place ws) n < 84 * 10 ^ 14 → row < n → sum ≡ square (term c ws) row → below ≡ row_part (term c ws) row → own ≡ term c ws row row → SquareStep c ws row sum below own
square_step c ws n row sum below own laws range in_row before is_below is_own =
    let before_size = square_size c ws row (λ i j p q. laws.symmetric i j (omega arith) (omega arith)) (λ i j p q. laws.at_most_one i j (omega arith) (omega arith)) in
    let below_size = row_size c ws row row (λ j h. laws.at_most_one row j in_row (omega arith)) in
    let own_size = term_size (c row row) (at_place ws row) (at_place ws row) (laws.at_most_one row row in_row in_row) in
    let part = sizes_below-mono (at_place ws) (suc row) n in_row in
    let most = square_in_range (sizes_below (at_place ws) row + unsigned_abs (at_place ws row)) (omega arith) in
    let step = square-suc (term c ws) row (λ j h. term-symmetric c ws j row (laws.symmetric j row (omega arith) in_row)) in
    let value : sum +ℤ (below +ℤ below +ℤ own) ≡ square (term c ws) (suc row) = omega (arith, ints) in
    record { twice = omega (arith, ints); added = omega (arith, ints); size = omega (arith, ints); value = rw add-one value }

-- ---- the whole sum

pub total_is : (c : ℕ → ℕ → ℤ) (ws : List ℤ) (n row : ℕ) (sum : ℤ) → length ws ≡ n → row ≡ n → sum ≡ square (term c ws) row → sum ≡ pair_total c ws
total_is c ws n row sum all done e = let whole : row ≡ length ws = omega arith in e ∙ ap (square (term c ws)) whole

pub total_size : (c : ℕ → ℕ → ℤ) (ws : List ℤ) (n gross : ℕ) (sum : ℤ) → Correlates n c → length ws ≡ n → sizes_below (at_place ws) n ≡ gross → sum ≡ pair_total c ws → unsigned_abs sum ≤ 1000000 * (gross * gross)
total_size c ws n gross sum laws all amounts e =
    let size = square_size c ws (length ws) (λ i j p q. laws.symmetric i j (omega arith) (omega arith)) (λ i j p q. laws.at_most_one i j (omega arith) (omega arith)) in
    let same : sizes_below (at_place ws) (length ws) ≡ gross = ap (sizes_below (at_place ws)) all ∙ amounts in
    subst (λ z. unsigned_abs z ≤ 1000000 * (gross * gross)) (sym e) (subst (λ k. unsigned_abs (pair_total c ws) ≤ 1000000 * (k * k)) same size)
