-- The terms of a row with the places before it: the amounts there times their correlations, and the row's own amount once.
use Rattle.std.proofs.Common.{◌≡◌, ℕ, zero, suc, ◌+◌, ◌*◌, ◌^◌, ◌<◌, ◌≤◌, List, ℤ, ◌+ℤ◌, ◌*ℤ◌, unsigned_abs, sym, ap, ◌∙◌, subst, arith, add-one}
use Rattle.std.proofs.Math.IntN.{zero-*ℤ}
use Rattle.std.proofs.lemmas.Nat.{mul-le}
use Rattle.simm_rules.proofs.MhUnits.Integers.{add-mul_ℤ, unsigned_abs-add, product_size}
use Rattle.pair_sum.specs.PairTotal.{sum_below, at_place, term}
use Rattle.pair_sum.proofs.Sums.{sizes_below, sizes_below-mono, amount_le}
use Rattle.pair_sum.proofs.Squares.{swap_last, row_size, square_in_range}

-- the sum of the first n amounts, each times its correlation with the row
abbrev pub correlated : (ℕ → ℕ → ℤ) → List ℤ → ℕ → ℕ → ℤ
correlated c ws row n = sum_below (λ j. c row j *ℤ at_place ws j) n

-- times the row's amount it is the sum of the terms
times_own : (c : ℕ → ℕ → ℤ) (ws : List ℤ) (row n : ℕ) → correlated c ws row n *ℤ at_place ws row ≡ sum_below (λ j. term c ws row j) n
times_own c ws row zero = zero-*ℤ (at_place ws row)
times_own c ws row (suc n) =
    add-mul_ℤ (correlated c ws row n) (c row n *ℤ at_place ws n) (at_place ws row) ∙ ap (λ z. z +ℤ c row n *ℤ at_place ws n *ℤ at_place ws row) (times_own c ws row n)
    ∙ ap (λ z. sum_below (λ j. term c ws row j) n +ℤ z) (swap_last (c row n) (at_place ws n) (at_place ws row))

correlated_size : (c : ℕ → ℕ → ℤ) (ws : List ℤ) (row n : ℕ) → ((j : ℕ) → j < n → unsigned_abs (c row j) ≤ 1000000) → unsigned_abs (correlated c ws row n) ≤ 1000000 * sizes_below (at_place ws) n
correlated_size c ws row zero h = omega arith
correlated_size c ws row (suc n) h =
    let rest = correlated_size c ws row n (λ j below. h j (omega arith)) in
    let last = product_size (c row n) (at_place ws n) 1000000 (unsigned_abs (at_place ws n)) (h n (omega arith)) (omega arith) in
    let both = unsigned_abs-add (correlated c ws row n) (c row n *ℤ at_place ws n) in
    omega arith

-- the correlations of a row are between -1 and 1
abbrev pub IsSmallRow : ℕ → ℕ → (ℕ → ℕ → ℤ) → Type 0
IsSmallRow n row c = (j : ℕ) → j < n → unsigned_abs (c row j) ≤ 1000000

-- the terms of a row fit the code's numbers
pub row_in_range : (c : ℕ → ℕ → ℤ) (ws : List ℤ) (n row end : ℕ) → IsSmallRow n row c → sizes_below (at_place ws) n < 84 * 10 ^ 14 → row < n → end ≤ n → unsigned_abs (sum_below (λ j. term c ws row j) end) ≤ 8 * 10 ^ 37
row_in_range c ws n row end small range in_row within =
    let size = row_size c ws row end (λ j below. small j (omega arith)) in
    let amount = amount_le (at_place ws) row n in_row in
    let part = sizes_below-mono (at_place ws) end n within in
    let most : unsigned_abs (at_place ws row) * sizes_below (at_place ws) end ≤ sizes_below (at_place ws) n * sizes_below (at_place ws) n = mul-le (unsigned_abs (at_place ws row)) (sizes_below (at_place ws) end) (sizes_below (at_place ws) n) (sizes_below (at_place ws) n) amount part in
    omega (arith, size, most, square_in_range (sizes_below (at_place ws) n) range)

-- one amount more
pub record RowStep (c : ℕ → ℕ → ℤ) (ws : List ℤ) (row place : ℕ) (sum more : ℤ) : Type 0 where
  pub size : unsigned_abs (sum +ℤ more) ≤ 84 * 10 ^ 20
  pub value : sum +ℤ more ≡ correlated c ws row (place + 1)

pub row_step : (c : ℕ → ℕ → ℤ) (ws : List ℤ) (n row place : ℕ) (sum more : ℤ) → IsSmallRow n row c → sizes_below (at_place ws) n < 84 * 10 ^ 14 → place < n → sum ≡ correlated c ws row place → more ≡ c row place *ℤ at_place ws place → RowStep c ws row place sum more
row_step c ws n row place sum more small range in_place before last =
    let size = correlated_size c ws row (suc place) (λ j below. small j (omega arith)) in
    let part = sizes_below-mono (at_place ws) (suc place) n (omega arith) in
    let value : sum +ℤ more ≡ correlated c ws row (suc place) = ap (λ z. z +ℤ more) before ∙ ap (λ z. correlated c ws row place +ℤ z) last in
    record {
      size = subst (λ z. unsigned_abs z ≤ 84 * 10 ^ 20) (sym value) (omega arith);
      value = rw add-one value;
    }

-- the row up to a place
pub record RowEnd (c : ℕ → ℕ → ℤ) (ws : List ℤ) (row end : ℕ) (sum own : ℤ) : Type 0 where
  pub size : unsigned_abs (sum *ℤ own) ≤ 8 * 10 ^ 37
  pub value : sum *ℤ own ≡ sum_below (λ j. term c ws row j) end

pub row_end : (c : ℕ → ℕ → ℤ) (ws : List ℤ) (n row end : ℕ) (sum own : ℤ) → IsSmallRow n row c → sizes_below (at_place ws) n < 84 * 10 ^ 14 → row < n → end ≤ n → sum ≡ correlated c ws row end → own ≡ at_place ws row → RowEnd c ws row end sum own
row_end c ws n row end sum own small range in_row within is_sum is_own =
    let value : sum *ℤ own ≡ sum_below (λ j. term c ws row j) end = ap (λ z. z *ℤ own) is_sum ∙ ap (λ z. correlated c ws row end *ℤ z) is_own ∙ times_own c ws row end in
    record {
      size = subst (λ z. unsigned_abs z ≤ 8 * 10 ^ 37) (sym value) (row_in_range c ws n row end small range in_row within);
      value = value;
    }
