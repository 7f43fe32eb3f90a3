-- The pairs with a marked place, and those without one.
use Rattle.std.proofs.Common.{◌≡◌, ℕ, ◌*◌, ◌^◌, ◌<◌, ◌≤◌, List, map, length, sum_by, Bool, true, false, ◌||◌, if◌then◌else◌, ℤ, pos, ◌+ℤ◌, ◌-ℤ◌, ◌*ℤ◌, unsigned_abs, refl, sym, ap, ◌∙◌, subst, arith}
use Rattle.std.proofs.Math.IntN.{zero-*ℤ}
use Rattle.std.proofs.lemmas.Int.{ints}
use Rattle.std.proofs.lemmas.List.{length-map}
use Rattle.simm_rules.proofs.MhUnits.Integers.{add-mul_ℤ}
use Rattle.pair_sum.specs.PairTotal.{sum_below, at_place, term, pair_total}
use Rattle.pair_sum.specs.Marked.{with_marked, marked_total}
use Rattle.pair_sum.proofs.Sums.{sum_below-ext, sum_below-add, sizes_below, sizes_below-all}
use Rattle.pair_sum.proofs.Squares.{square, square_size, square_in_range, Correlates}

-- the correlations of the pairs with no marked place, and 0 elsewhere
abbrev pub without_marked : (ℕ → Bool) → (ℕ → ℕ → ℤ) → ℕ → ℕ → ℤ
without_marked marked c i j = if marked i || marked j then pos 0 else c i j

-- ---- they are correlations

pub with_marked-correlates : (n : ℕ) (marked : ℕ → Bool) (c : ℕ → ℕ → ℤ) → Correlates n c → Correlates n (with_marked marked c)
with_marked-correlates n marked c laws = record {
  symmetric = λ i j p q. symmetric (marked i) (marked j) (c i j) (c j i) (laws.symmetric i j p q);
  at_most_one = λ i j p q. small (marked i || marked j) (c i j) (laws.at_most_one i j p q);
}
  where
    symmetric : (s t : Bool) (a b : ℤ) → a ≡ b → (if s || t then a else pos 0) ≡ (if t || s then b else pos 0)
    symmetric true true a b e = e
    symmetric true false a b e = e
    symmetric false true a b e = e
    symmetric false false a b e = refl

    small : (t : Bool) (a : ℤ) → unsigned_abs a ≤ 1000000 → unsigned_abs (if t then a else pos 0) ≤ 1000000
    small true a h = h
    small false a h = omega arith

without_marked-correlates : (n : ℕ) (marked : ℕ → Bool) (c : ℕ → ℕ → ℤ) → Correlates n c → Correlates n (without_marked marked c)
without_marked-correlates n marked c laws = record {
  symmetric = λ i j p q. symmetric (marked i) (marked j) (c i j) (c j i) (laws.symmetric i j p q);
  at_most_one = λ i j p q. small (marked i || marked j) (c i j) (laws.at_most_one i j p q);
}
  where
    symmetric : (s t : Bool) (a b : ℤ) → a ≡ b → (if s || t then pos 0 else a) ≡ (if t || s then pos 0 else b)
    symmetric true true a b e = refl
    symmetric true false a b e = refl
    symmetric false true a b e = refl
    symmetric false false a b e = e

    small : (t : Bool) (a : ℤ) → unsigned_abs a ≤ 1000000 → unsigned_abs (if t then pos 0 else a) ≤ 1000000
    small true a h = omega arith
    small false a h = h

-- ---- all pairs are those with a marked place and those without

pub zero_term : (a b : ℤ) → pos 0 *ℤ a *ℤ b ≡ pos 0
zero_term a b = ap (λ z. z *ℤ b) (zero-*ℤ a) ∙ zero-*ℤ b

split_term : (x y z a b : ℤ) → x ≡ y +ℤ z → x *ℤ a *ℤ b ≡ y *ℤ a *ℤ b +ℤ z *ℤ a *ℤ b
split_term x y z a b e = ap (λ w. w *ℤ a *ℤ b) e ∙ ap (λ w. w *ℤ b) (add-mul_ℤ y z a) ∙ add-mul_ℤ (y *ℤ a) (z *ℤ a) b

-- a square of correlations that are sums
pub square-split : (c d e : ℕ → ℕ → ℤ) (ws : List ℤ) (n : ℕ) → ((i j : ℕ) → i < n → j < n → c i j ≡ d i j +ℤ e i j) → square (term c ws) n ≡ square (term d ws) n +ℤ square (term e ws) n
square-split c d e ws n h =
    sum_below-ext (λ i. sum_below (term c ws i) n) (λ i. sum_below (term d ws i) n +ℤ sum_below (term e ws i) n) n
    (λ i p. sum_below-ext (term c ws i) (λ j. term d ws i j +ℤ term e ws i j) n (λ j q. split_term (c i j) (d i j) (e i j) (at_place ws i) (at_place ws j) (h i j p q)) ∙ sum_below-add (term d ws i) (term e ws i) n)
    ∙ sum_below-add (λ i. sum_below (term d ws i) n) (λ i. sum_below (term e ws i) n) n

pair_total-marked : (marked : ℕ → Bool) (c : ℕ → ℕ → ℤ) (ws : List ℤ) → pair_total c ws ≡ pair_total (without_marked marked c) ws +ℤ marked_total marked c ws
pair_total-marked marked c ws = square-split c (without_marked marked c) (with_marked marked c) ws (length ws) (λ i j p q. by (marked i || marked j) (c i j))
  where
    by : (t : Bool) (z : ℤ) → z ≡ (if t then pos 0 else z) +ℤ (if t then z else pos 0)
    by true z = omega (arith, ints)
    by false z = omega (arith, ints)

-- ---- their sums fit the code's numbers

pub range_of : {A : Type 0} (f : A → ℤ) (xs : List A) → sum_by (λ x. unsigned_abs (f x)) xs < 84 * 10 ^ 14 → sizes_below (at_place (map f xs)) (length (map f xs)) < 84 * 10 ^ 14
range_of f xs h = let same = ap (sizes_below (at_place (map f xs))) (length-map xs f) in omega (arith, same, sizes_below-all f xs)

total_in_range : (c : ℕ → ℕ → ℤ) (ws : List ℤ) → Correlates (length ws) c → sizes_below (at_place ws) (length ws) < 84 * 10 ^ 14 → unsigned_abs (pair_total c ws) ≤ 8 * 10 ^ 37
total_in_range c ws laws range =
    let size = square_size c ws (length ws) laws.symmetric laws.at_most_one in
    omega (arith, size, square_in_range (sizes_below (at_place ws) (length ws)) range)

pub marked_in_range : (marked : ℕ → Bool) (c : ℕ → ℕ → ℤ) (ws : List ℤ) → Correlates (length ws) c → sizes_below (at_place ws) (length ws) < 84 * 10 ^ 14 → unsigned_abs (marked_total marked c ws) ≤ 8 * 10 ^ 37
marked_in_range marked c ws laws range = total_in_range (with_marked marked c) ws (with_marked-correlates (length ws) marked c laws) range

-- ---- a change of marked places alone

-- equal amounts and correlations of unmarked places: the same sum without the marked ones
without_marked-same : (marked : ℕ → Bool) (b a : ℕ → ℕ → ℤ) (vs ws : List ℤ) (n : ℕ) → length vs ≡ n → length ws ≡ n → ((i : ℕ) → i < n → marked i ≡ false → at_place vs i ≡ at_place ws i) → ((i j : ℕ) → i < n → j < n → marked i ≡ false → marked j ≡ false → b i j ≡ a i j) → pair_total (without_marked marked b) vs ≡ pair_total (without_marked marked a) ws
without_marked-same marked b a vs ws n p q amounts correlations =
    ap (square (term (without_marked marked b) vs)) p
    ∙ sum_below-ext _ _ n (λ i h. sum_below-ext _ _ n (λ j k. by (marked i) (marked j) i j (amounts i h) (amounts j k) (correlations i j h k)))
    ∙ sym (ap (square (term (without_marked marked a) ws)) q)
  where
    by : (s t : Bool) (i j : ℕ) → (s ≡ false → at_place vs i ≡ at_place ws i) → (t ≡ false → at_place vs j ≡ at_place ws j) → (s ≡ false → t ≡ false → b i j ≡ a i j) → (if s || t then pos 0 else b i j) *ℤ at_place vs i *ℤ at_place vs j ≡ (if s || t then pos 0 else a i j) *ℤ at_place ws i *ℤ at_place ws j
    by true t i j x y z = zero_term (at_place vs i) (at_place vs j) ∙ sym (zero_term (at_place ws i) (at_place ws j))
    by false true i j x y z = zero_term (at_place vs i) (at_place vs j) ∙ sym (zero_term (at_place ws i) (at_place ws j))
    by false false i j x y z = let d = x refl in let e = y refl in let f = z refl refl in cc

-- The sum of the pairs before a change, what is left of it without the marked ones, and that of the pairs after it.
pub record Renewed (marked : ℕ → Bool) (a : ℕ → ℕ → ℤ) (ws : List ℤ) (q rest : ℤ) : Type 0 where
  pub before : unsigned_abs q ≤ 8 * 10 ^ 37
  pub left : unsigned_abs rest ≤ 8 * 10 ^ 37
  pub value : rest +ℤ marked_total marked a ws ≡ pair_total a ws

pub renewed : (marked : ℕ → Bool) (b a : ℕ → ℕ → ℤ) (vs ws : List ℤ) (q rest : ℤ) → Correlates (length vs) b → sizes_below (at_place vs) (length vs) < 84 * 10 ^ 14 → length vs ≡ length ws → ((i : ℕ) → i < length ws → marked i ≡ false → at_place vs i ≡ at_place ws i) → ((i j : ℕ) → i < length ws → j < length ws → marked i ≡ false → marked j ≡ false → b i j ≡ a i j) → q ≡ pair_total b vs → rest ≡ q -ℤ marked_total marked b vs → Renewed marked a ws q rest
renewed marked b a vs ws q rest laws range same_places amounts correlations is_q is_rest =
    let was = pair_total-marked marked b vs in
    let is = pair_total-marked marked a ws in
    let kept = without_marked-same marked b a vs ws (length ws) same_places refl amounts correlations in
    let without : rest ≡ pair_total (without_marked marked b) vs = omega (arith, ints, is_q, is_rest, was) in
    record {
      before = subst (λ z. unsigned_abs z ≤ 8 * 10 ^ 37) (sym is_q) (total_in_range b vs laws range);
      left = subst (λ z. unsigned_abs z ≤ 8 * 10 ^ 37) (sym without) (total_in_range (without_marked marked b) vs (without_marked-correlates (length vs) marked b laws) range);
      value = omega (arith, ints, without, kept, is);
    }
