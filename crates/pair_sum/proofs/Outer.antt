-- The sum under the root over buckets, one bucket more at a time, and how large it can be.
use Rattle.std.proofs.Common.{◌≡◌, ◌≢◌, ℕ, zero, suc, ◌+◌, ◌*◌, ◌^◌, ◌<◌, ◌≤◌, List, length, get_or, sum_by, All, ℤ, pos, ◌+ℤ◌, ◌*ℤ◌, unsigned_abs, sym, ap, ◌∙◌, subst, arith, add-one}
use Rattle.std.proofs.lemmas.Int.{ints, unsigned_abs-mul}
use Rattle.std.proofs.lemmas.List.{get_or-map}
use Rattle.std.proofs.lemmas.Nat.{mul-le}
use Rattle.std.proofs.lemmas.Bool.Decides.{nat_tests}
use Rattle.simm_rules.proofs.MhUnits.Integers.{mul-add_ℤ, unsigned_abs-add}
use Rattle.simm_rules.specs.declared.values.BucketMargin.{BucketMargin}
use Rattle.simm_rules.specs.Concentration.{one}
use Rattle.pair_sum.specs.PairTotal.{sum_below, at_place, term, term_apart, margins, held_sums, outer_total}
use Rattle.pair_sum.proofs.Sums.{sum_below-ext, sizes_below, sizes_below-mono, sizes_below-le, sizes_below-all, at_place-le, amount_le}
use Rattle.pair_sum.proofs.Squares.{square, row_part, square-suc, term-symmetric, row_size, square_in_range, Correlates}

apart : (c : ℕ → ℕ → ℤ) (ws : List ℤ) (i j : ℕ) → i ≢ j → term_apart c ws i j ≡ term c ws i j
apart c ws i j h = grind (arith, nat_tests)

together : (c : ℕ → ℕ → ℤ) (ws : List ℤ) (i : ℕ) → term_apart c ws i i ≡ pos 0
together c ws i = grind (arith, nat_tests)

-- the sum of the first n buckets
abbrev pub outer_below : (ℕ → ℕ → ℤ) → List ℤ → List ℤ → ℕ → ℤ
outer_below c ks ss n = one *ℤ sum_below (λ i. at_place ks i *ℤ at_place ks i) n +ℤ square (term_apart c ss) n

outer_below-suc : (c : ℕ → ℕ → ℤ) (ks ss : List ℤ) (n : ℕ) → ((j : ℕ) → j < n → c j n ≡ c n j) → outer_below c ks ss (suc n) ≡ outer_below c ks ss n +ℤ (one *ℤ (at_place ks n *ℤ at_place ks n) +ℤ row_part (term c ss) n +ℤ row_part (term c ss) n)
outer_below-suc c ks ss n symmetric =
    let step = square-suc (term_apart c ss) n (λ j below. apart c ss j n (omega arith) ∙ term-symmetric c ss j n (symmetric j below) ∙ sym (apart c ss n j (omega arith))) in
    let row : row_part (term_apart c ss) n ≡ row_part (term c ss) n = sum_below-ext (term_apart c ss n) (term c ss n) n (λ j below. apart c ss n j (omega arith)) in
    let own = together c ss n in
    let squares = mul-add_ℤ one (sum_below (λ i. at_place ks i *ℤ at_place ks i) n) (at_place ks n *ℤ at_place ks n) in
    omega (arith, ints, step, row, own, squares)

square_own : (k : ℤ) → unsigned_abs (one *ℤ (k *ℤ k)) ≡ 1000000 * (unsigned_abs k * unsigned_abs k)
square_own k = unsigned_abs-mul one (k *ℤ k) ∙ ap (λ n. 1000000 * n) (unsigned_abs-mul k k)

-- a row of sums that are held between the margins
held_row : (c : ℕ → ℕ → ℤ) (ks ss : List ℤ) (n : ℕ) → ((j : ℕ) → j < n → unsigned_abs (c n j) ≤ 1000000) → ((i : ℕ) → i < suc n → unsigned_abs (at_place ss i) ≤ unsigned_abs (at_place ks i)) → unsigned_abs (row_part (term c ss) n) ≤ 1000000 * (unsigned_abs (at_place ks n) * sizes_below (at_place ks) n)
held_row c ks ss n small held =
    let size = row_size c ss n n small in
    let own = held n (omega arith) in
    let before = sizes_below-le (at_place ss) (at_place ks) n (λ i below. held i (omega arith)) in
    let most = mul-le (unsigned_abs (at_place ss n)) (sizes_below (at_place ss) n) (unsigned_abs (at_place ks n)) (sizes_below (at_place ks) n) own before in
    omega (arith, size, most)

pub outer_size : (c : ℕ → ℕ → ℤ) (ks ss : List ℤ) (n : ℕ) → ((i j : ℕ) → i < n → j < n → c i j ≡ c j i) → ((i j : ℕ) → i < n → j < n → unsigned_abs (c i j) ≤ 1000000) → ((i : ℕ) → i < n → unsigned_abs (at_place ss i) ≤ unsigned_abs (at_place ks i)) → unsigned_abs (outer_below c ks ss n) ≤ 1000000 * (sizes_below (at_place ks) n * sizes_below (at_place ks) n)
outer_size c ks ss zero symmetric small held = omega arith
outer_size c ks ss (suc n) symmetric small held =
    let rest = outer_size c ks ss n (λ i j p q. symmetric i j (omega arith) (omega arith)) (λ i j p q. small i j (omega arith) (omega arith)) (λ i p. held i (omega arith)) in
    let row = held_row c ks ss n (λ j below. small n j (omega arith) (omega arith)) held in
    let own = square_own (at_place ks n) in
    let step = outer_below-suc c ks ss n (λ j below. symmetric j n (omega arith) (omega arith)) in
    let k = one *ℤ (at_place ks n *ℤ at_place ks n) in
    let r = row_part (term c ss) n in
    omega (arith, ints, step, unsigned_abs-add (outer_below c ks ss n) (k +ℤ r +ℤ r), unsigned_abs-add (k +ℤ r) r, unsigned_abs-add k r)

-- one bucket more
pub record OuterStep (c : ℕ → ℕ → ℤ) (ks ss : List ℤ) (row : ℕ) (sum own below : ℤ) : Type 0 where
  pub first : unsigned_abs (own +ℤ below) ≤ 8 * 10 ^ 37
  pub second : unsigned_abs (own +ℤ below +ℤ below) ≤ 8 * 10 ^ 37
  pub size : unsigned_abs (sum +ℤ (own +ℤ below +ℤ below)) ≤ 8 * 10 ^ 37
  pub value : sum +ℤ (own +ℤ below +ℤ below) ≡ outer_below c ks ss (row + 1)

pub outer_step : (c : ℕ → ℕ → ℤ) (ks ss : List ℤ) (n row : ℕ) (sum own below : ℤ) → Correlates n c → ((i : ℕ) → i < n → unsigned_abs (at_place ss i) ≤ unsigned_abs (at_place ks i)) → sizes_below (at_place ks) n < 84 * 10 ^ 14 → row < n → sum ≡ outer_below c ks ss row → own ≡ one *ℤ (at_place ks row *ℤ at_place ks row) → below ≡ row_part (term c ss) row → OuterStep c ks ss row sum own below
outer_step c ks ss n row sum own below laws held range in_row before is_own is_below =
    let before_size = outer_size c ks ss row (λ i j p q. laws.symmetric i j (omega arith) (omega arith)) (λ i j p q. laws.at_most_one i j (omega arith) (omega arith)) (λ i p. held i (omega arith)) in
    let below_size = held_row c ks ss row (λ j h. laws.at_most_one row j in_row (omega arith)) (λ i h. held i (omega arith)) in
    let own_size = square_own (at_place ks row) in
    let part = sizes_below-mono (at_place ks) (suc row) n in_row in
    let most = square_in_range (sizes_below (at_place ks) row + unsigned_abs (at_place ks row)) (omega arith) in
    let step = outer_below-suc c ks ss row (λ j h. laws.symmetric j row (omega arith) in_row) in
    let value : sum +ℤ (own +ℤ below +ℤ below) ≡ outer_below c ks ss (suc row) = omega (arith, ints) in
    record {
      first = omega (arith, ints);
      second = omega (arith, ints);
      size = omega (arith, ints);
      value = rw add-one value;
    }

-- the square of a margin, and the square in millionths, fit the code's numbers
pub margin_fits : (k : ℤ) → unsigned_abs k < 84 * 10 ^ 14 → (unsigned_abs (k *ℤ k) ≤ 8 * 10 ^ 37) × (unsigned_abs (one *ℤ (k *ℤ k)) ≤ 8 * 10 ^ 37)
margin_fits k h = let most = square_in_range (unsigned_abs k) h in (omega (arith, unsigned_abs-mul k k), omega (arith, square_own k))

-- what a read of a part gives past the end
abbrev pub no_part : BucketMargin
no_part = record { q = pos 0; k = pos 0; s = pos 0; sum = pos 0; gross = pos 0; cr = record { 0 = pos 0 } }

pub margin_at : (parts : List BucketMargin) (row : ℕ) → row < length parts → (get_or parts row no_part).k ≡ at_place (margins parts) row
margin_at parts row h = sym (get_or-map (λ part. part.k) parts row no_part (pos 0) h)

pub margin_in_range : (parts : List BucketMargin) (row : ℕ) → row < length parts → sum_by (λ part. unsigned_abs part.k) parts < 84 * 10 ^ 14 → unsigned_abs (get_or parts row no_part).k < 84 * 10 ^ 14
margin_in_range parts row h range =
    let le : unsigned_abs (at_place (margins parts) row) ≤ sizes_below (at_place (margins parts)) (length parts) = amount_le (at_place (margins parts)) row (length parts) h in
    subst (λ z. unsigned_abs z < 84 * 10 ^ 14) (sym (margin_at parts row h)) (omega (arith, sizes_below-all (λ (part : BucketMargin). part.k) parts))

-- ---- the whole sum

pub outer_is : (c : ℕ → ℕ → ℤ) (parts : List BucketMargin) (row : ℕ) (sum : ℤ) → row ≡ length parts → sum ≡ outer_below c (margins parts) (held_sums parts) row → sum ≡ outer_total c parts
outer_is c parts row sum done e = e ∙ ap (outer_below c (margins parts) (held_sums parts)) done

pub outer_total_size : (c : ℕ → ℕ → ℤ) (parts : List BucketMargin) (sum : ℤ) → Correlates (length parts) c → All (λ part. unsigned_abs part.s ≤ unsigned_abs part.k) parts → sum ≡ outer_total c parts → unsigned_abs sum ≤ 1000000 * (sum_by (λ part. unsigned_abs part.k) parts * sum_by (λ part. unsigned_abs part.k) parts)
outer_total_size c parts sum laws held e =
    let size = outer_size c (margins parts) (held_sums parts) (length parts) laws.symmetric laws.at_most_one (at_place-le (λ part. part.s) (λ part. part.k) parts held) in
    let all = sizes_below-all (λ (part : BucketMargin). part.k) parts in
    subst (λ z. unsigned_abs z ≤ 1000000 * (sum_by (λ part. unsigned_abs part.k) parts * sum_by (λ part. unsigned_abs part.k) parts)) (sym e)
    (subst (λ n. unsigned_abs (outer_total c parts) ≤ 1000000 * (n * n)) all size)

-- the sums held between the margins add up to no more than the margins
pub held_in_range : (parts : List BucketMargin) → All (λ part. unsigned_abs part.s ≤ unsigned_abs part.k) parts → sum_by (λ part. unsigned_abs part.k) parts < 84 * 10 ^ 14 → sum_by (λ part. unsigned_abs part.s) parts < 84 * 10 ^ 14
held_in_range parts held range =
    omega (arith, sizes_below-all (λ (part : BucketMargin). part.k) parts, sizes_below-all (λ (part : BucketMargin). part.s) parts, sizes_below-le (at_place (held_sums parts)) (at_place (margins parts)) (length parts) (at_place-le (λ part. part.s) (λ part. part.k) parts held))
