-- The pairs with a marked place, one marked place after another.
use Rattle.std.proofs.Common.{◌≡◌, ◌≢◌, ℕ, suc, ◌+◌, ◌*◌, ◌^◌, ◌<◌, ◌≤◌, List, length, Bool, true, false, nat_lt, ◌==◌, ◌||◌, ◌&&◌, if◌then◌else◌, ℤ, pos, ◌+ℤ◌, ◌-ℤ◌, ◌*ℤ◌, unsigned_abs, refl, sym, ap, ◌∙◌, subst, arith, add-one, le_refl, ⊎_elim}
use Rattle.std.proofs.lemmas.Bool.{cases_eq}
use Rattle.std.proofs.lemmas.Bool.Decides.{nat_tests}
use Rattle.std.proofs.lemmas.Int.{ints}
use Rattle.simm_rules.proofs.MhUnits.Integers.{unsigned_abs-add}
use Rattle.pair_sum.specs.PairTotal.{sum_below, at_place, term}
use Rattle.pair_sum.specs.Marked.{with_marked, marked_total, count_marked, marked_before, beside}
use Rattle.pair_sum.proofs.Sums.{sum_below-ext, sizes_below}
use Rattle.pair_sum.proofs.Squares.{term-symmetric, Correlates}
use Rattle.pair_sum.proofs.Rows.{IsSmallRow, row_in_range}
use Rattle.pair_sum.proofs.Crosses.{sum_below-none, others, cross}
use Rattle.pair_sum.proofs.MarkedPairs.{with_marked-correlates, zero_term, square-split, marked_in_range}

abbrev touched : (ℕ → Bool) → (ℕ → ℕ → ℤ) → ℕ → ℕ → ℕ → ℤ
touched marked c k = with_marked (marked_before marked k) c

-- what is new in the row and the column of k
abbrev fresh : (ℕ → Bool) → (ℕ → ℕ → ℤ) → ℕ → ℕ → ℕ → ℤ
fresh marked c k i j = touched marked c (suc k) i j -ℤ touched marked c k i j

before_more : (marked : ℕ → Bool) (k i : ℕ) → i ≢ k → marked_before marked (suc k) i ≡ marked_before marked k i
before_more marked k i h = ap (λ t. t && marked i) (grind (arith, nat_tests))

before_own : (marked : ℕ → Bool) (k : ℕ) → marked_before marked (suc k) k ≡ marked k
before_own marked k = ap (λ t. t && marked k) (ltb-suc k)
  where
    ltb-suc : (n : ℕ) → nat_lt n (suc n) ≡ true
    ltb-suc n = grind (arith, nat_tests)

before_none : (marked : ℕ → Bool) (k : ℕ) → marked_before marked k k ≡ false
before_none marked k = ap (λ t. t && marked k) (ltb-same k)
  where
    ltb-same : (n : ℕ) → nat_lt n n ≡ false
    ltb-same n = grind (arith, nat_tests)

touched-by : (marked : ℕ → Bool) (c : ℕ → ℕ → ℤ) (k i j : ℕ) (s t : Bool) → marked_before marked k i ≡ s → marked_before marked k j ≡ t → touched marked c k i j ≡ (if s || t then c i j else pos 0)
touched-by marked c k i j s t p q = ap (λ x. if x || marked_before marked k j then c i j else pos 0) p ∙ ap (λ x. if s || x then c i j else pos 0) q

-- an unmarked place changes nothing
touched-same : (marked : ℕ → Bool) (c : ℕ → ℕ → ℤ) (k i j : ℕ) → marked k ≡ false → touched marked c (suc k) i j ≡ touched marked c k i j
touched-same marked c k i j h = touched-by marked c (suc k) i j _ _ (each i) (each j)
  where
    each : (l : ℕ) → marked_before marked (suc k) l ≡ marked_before marked k l
    each l = ⊎_elim (λ e. ap (marked_before marked (suc k)) e ∙ before_own marked k ∙ h ∙ sym (before_none marked k) ∙ sym (ap (marked_before marked k) e)) (λ ne. before_more marked k l ne) (cases_eq l k)

touched-off : (marked : ℕ → Bool) (c : ℕ → ℕ → ℤ) (k i j : ℕ) → i ≢ k → j ≢ k → touched marked c (suc k) i j ≡ touched marked c k i j
touched-off marked c k i j p q = touched-by marked c (suc k) i j _ _ (before_more marked k i p) (before_more marked k j q)

touched-row : (marked : ℕ → Bool) (c : ℕ → ℕ → ℤ) (k j : ℕ) → marked k ≡ true → touched marked c (suc k) k j ≡ c k j
touched-row marked c k j h = touched-by marked c (suc k) k j true _ (before_own marked k ∙ h) refl

touched-old : (marked : ℕ → Bool) (c : ℕ → ℕ → ℤ) (k j : ℕ) → touched marked c k k j ≡ (if marked_before marked k j then c k j else pos 0)
touched-old marked c k j = touched-by marked c k k j false _ (before_none marked k) refl

-- the others of the row are those beside it
fresh-beside : (marked : ℕ → Bool) (c : ℕ → ℕ → ℤ) (ws : List ℤ) (k j : ℕ) → marked k ≡ true → others (term (fresh marked c k) ws) k j ≡ term (beside marked c) ws k j
fresh-beside marked c ws k j h =
    ap (λ z. if k == j then pos 0 else z *ℤ at_place ws k *ℤ at_place ws j) (let row = touched-row marked c k j h in let old = touched-old marked c k j in let new = by (marked_before marked k j) (c k j) in omega (arith, ints, row, old, new))
    ∙ both (k == j) (marked_before marked k j)
  where
    by : (t : Bool) (z : ℤ) → z -ℤ (if t then z else pos 0) ≡ (if t then pos 0 else z)
    by true z = omega (arith, ints)
    by false z = omega (arith, ints)

    both : (s t : Bool) → (if s then pos 0 else (if t then pos 0 else c k j) *ℤ at_place ws k *ℤ at_place ws j) ≡ (if s || t then pos 0 else c k j) *ℤ at_place ws k *ℤ at_place ws j
    both true t = sym (zero_term (at_place ws k) (at_place ws j))
    both false t = refl

-- the terms of a marked place that no marked place before it has
pub record MarkedStep (marked : ℕ → Bool) (c : ℕ → ℕ → ℤ) (ws : List ℤ) (row : ℕ) (rest own : ℤ) : Type 0 where
  pub size : unsigned_abs rest ≤ 8 * 10 ^ 37
  pub twice : unsigned_abs (rest +ℤ rest) ≤ 16 * 10 ^ 37
  pub added : unsigned_abs (rest +ℤ rest +ℤ own) ≤ 16 * 10 ^ 37
  pub value : marked_total (marked_before marked row) c ws +ℤ (rest +ℤ rest +ℤ own) ≡ marked_total (marked_before marked (row + 1)) c ws

-- the correlations of what is beside a row
pub beside-small : (marked : ℕ → Bool) (c : ℕ → ℕ → ℤ) (n row : ℕ) → IsSmallRow n row c → IsSmallRow n row (beside marked c)
beside-small marked c n row small = λ j below. by (row == j || marked_before marked row j) (c row j) (small j below)
  where
    by : (t : Bool) (z : ℤ) → unsigned_abs z ≤ 1000000 → unsigned_abs (if t then pos 0 else z) ≤ 1000000
    by true z h = omega arith
    by false z h = h

pub marked_step : (marked : ℕ → Bool) (c : ℕ → ℕ → ℤ) (ws : List ℤ) (row : ℕ) (rest own : ℤ) → Correlates (length ws) c → sizes_below (at_place ws) (length ws) < 84 * 10 ^ 14 → row < length ws → marked row ≡ true → rest ≡ sum_below (λ j. term (beside marked c) ws row j) (length ws) → own ≡ term c ws row row → MarkedStep marked c ws row rest own
marked_step marked c ws row rest own laws range inside is_marked is_rest is_own =
    let n = length ws in
    let new = with_marked-correlates n (marked_before marked (suc row)) c laws in
    let old = with_marked-correlates n (marked_before marked row) c laws in
    let split = square-split (touched marked c (suc row)) (touched marked c row) (fresh marked c row) ws n (λ i j p q. omega (arith, ints)) in
    let crossed = cross (term (fresh marked c row) ws) row n inside
    (λ i j p q. term-symmetric (fresh marked c row) ws i j (let a = new.symmetric i j p q in let b = old.symmetric i j p q in omega (arith, ints, a, b)))
    (λ i j p q ni nj. let e = touched-off marked c row i j ni nj in let none : fresh marked c row i j ≡ pos 0 = omega (arith, ints, e) in ap (λ z. z *ℤ at_place ws i *ℤ at_place ws j) none ∙ zero_term (at_place ws i) (at_place ws j)) in
    let others_are : sum_below (others (term (fresh marked c row) ws) row) n ≡ rest = sum_below-ext _ _ n (λ j p. fresh-beside marked c ws row j is_marked) ∙ sym is_rest in
    let own_is : term (fresh marked c row) ws row row ≡ own = let a = touched-row marked c row row is_marked in let b = touched-old marked c row row in let d : (if marked_before marked row row then c row row else pos 0) ≡ pos 0 = ap (λ t. if t then c row row else pos 0) (before_none marked row) in let whole : fresh marked c row row row ≡ c row row = omega (arith, ints, a, b, d) in ap (λ z. z *ℤ at_place ws row *ℤ at_place ws row) whole ∙ sym is_own in
    let value : marked_total (marked_before marked row) c ws +ℤ (rest +ℤ rest +ℤ own) ≡ marked_total (marked_before marked (suc row)) c ws = omega (arith, ints, split, crossed, others_are, own_is) in
    let size : unsigned_abs rest ≤ 8 * 10 ^ 37 = subst (λ z. unsigned_abs z ≤ 8 * 10 ^ 37) (sym is_rest) (row_in_range (beside marked c) ws n row n (beside-small marked c n row (λ j p. laws.at_most_one row j inside p)) range inside (le_refl n)) in
    let before = marked_in_range (marked_before marked row) c ws laws range in
    let after = marked_in_range (marked_before marked (suc row)) c ws laws range in
    record {
      size = size;
      twice = omega (arith, size, unsigned_abs-add rest rest);
      added = omega (arith, ints, value, before, after);
      value = rw add-one value;
    }

pub unmarked_step : (marked : ℕ → Bool) (c : ℕ → ℕ → ℤ) (ws : List ℤ) (row : ℕ) → marked row ≡ false → marked_total (marked_before marked row) c ws ≡ marked_total (marked_before marked (row + 1)) c ws
unmarked_step marked c ws row h =
    let value : marked_total (marked_before marked row) c ws ≡ marked_total (marked_before marked (suc row)) c ws = sum_below-ext _ _ (length ws) (λ i p. sum_below-ext _ _ (length ws) (λ j q. ap (λ z. z *ℤ at_place ws i *ℤ at_place ws j) (sym (touched-same marked c row i j h)))) in
    rw add-one value

-- at first none is touched, and at last all marked ones
pub touched_none : (marked : ℕ → Bool) (c : ℕ → ℕ → ℤ) (ws : List ℤ) → pos 0 ≡ marked_total (marked_before marked 0) c ws
touched_none marked c ws =
    sym (sum_below-none (length ws)) ∙ sum_below-ext _ _ (length ws) (λ i p. sym (sum_below-none (length ws)) ∙ sum_below-ext _ _ (length ws) (λ j q. sym (zero_term (at_place ws i) (at_place ws j)) ∙ ap (λ z. z *ℤ at_place ws i *ℤ at_place ws j) (sym (touched-by marked c 0 i j false false (none i) (none j)))))
  where
    none : (l : ℕ) → marked_before marked 0 l ≡ false
    none l = grind (arith, nat_tests)

pub touched_all : (marked : ℕ → Bool) (c : ℕ → ℕ → ℤ) (ws : List ℤ) (n : ℕ) → n ≡ length ws → marked_total (marked_before marked n) c ws ≡ marked_total marked c ws
touched_all marked c ws n done = sum_below-ext _ _ (length ws) (λ i p. sum_below-ext _ _ (length ws) (λ j q. ap (λ z. z *ℤ at_place ws i *ℤ at_place ws j) (touched-by marked c n i j _ _ (each i (omega arith)) (each j (omega arith)))))
  where
    each : (l : ℕ) → l < n → marked_before marked n l ≡ marked l
    each l h = let lt : nat_lt l n ≡ true = grind (arith, nat_tests) in ap (λ t. t && marked l) lt

-- ---- how many steps they take

pub count_step : (marked : ℕ → Bool) (k n a b c : ℕ) → b ≤ a + count_marked marked k * n → c ≤ b + (if marked k then 1 else 0) * n → c ≤ a + count_marked marked (k + 1) * n
count_step marked k n a b c h l = rw add-one (omega (arith, h, l))
