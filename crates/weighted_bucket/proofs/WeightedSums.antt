-- Sums of weighted values over the places of the factors.
use Rattle.std.proofs.Common.{◌≡◌, ℕ, zero, suc, ◌+◌, ◌*◌, ◌^◌, ◌<◌, ◌≤◌, List, map, length, get_or, ℤ, pos, ◌+ℤ◌, unsigned_abs, FitsSigned, sum_by, sym, ap, ◌∙◌, subst, arith, add-one}
use Rattle.std.specs.Int.{w128}
use Rattle.std.proofs.lemmas.Int.{fits_signed_from_abs}
use Rattle.std.proofs.lemmas.List.{get_or-map}
use Rattle.std.proofs.lemmas.List.Sums.{get_or-le-sum_by}
use Rattle.concentration.proofs.MhUnits.Integers.{unsigned_abs-add}
use Rattle.pair_sum.specs.PairTotal.{sum_below, at_place}
use Rattle.pair_sum.proofs.Sums.{sizes_below, sizes_below-all, sizes_below-mono, total_by-places}
use Rattle.weighted_bucket.specs.declared.weighed.Weighed.{Weighed}
use Rattle.weighted_bucket.specs.Bucket.{sum_of}

abbrev pub amounts : List Weighed → List ℤ
amounts factors = map (λ factor. factor.w) factors

-- the sum of the first n
abbrev pub sum_of_first : List Weighed → ℕ → ℤ
sum_of_first factors n = sum_below (at_place (amounts factors)) n

pub sum_below-size : (f : ℕ → ℤ) (n : ℕ) → unsigned_abs (sum_below f n) ≤ sizes_below f n
sum_below-size f zero = omega arith
sum_below-size f (suc n) = omega (arith, sum_below-size f n, unsigned_abs-add (sum_below f n) (f n))

first_size : (factors : List Weighed) (n : ℕ) → n ≤ length factors → unsigned_abs (sum_of_first factors n) ≤ sum_by (λ factor. unsigned_abs factor.w) factors
first_size factors n h =
    omega (arith, sum_below-size (at_place (amounts factors)) n, sizes_below-mono (at_place (amounts factors)) n (length factors) h, sizes_below-all (λ (factor : Weighed). factor.w) factors)

-- what a read gives past the end
abbrev pub no_weight : Weighed
no_weight = record { w = pos 0; cr = record { 0 = pos 0 } }

-- one factor more
pub record SumStep (factors : List Weighed) (n : ℕ) (sum more : ℤ) : Type 0 where
  pub own : FitsSigned w128 more
  pub both : FitsSigned w128 (sum +ℤ more)
  pub value : sum +ℤ more ≡ sum_of_first factors (n + 1)

pub sum_step : (factors : List Weighed) (n : ℕ) (sum : ℤ) → sum_by (λ factor. unsigned_abs factor.w) factors < 84 * 10 ^ 14 → n < length factors → sum ≡ sum_of_first factors n → SumStep factors n sum (get_or factors n no_weight).w
sum_step factors n sum range inside before =
    let more = (get_or factors n no_weight).w in
    let at : at_place (amounts factors) n ≡ more = get_or-map (λ (factor : Weighed). factor.w) factors n no_weight (pos 0) inside in
    let value : sum +ℤ more ≡ sum_of_first factors (suc n) = ap (λ z. z +ℤ more) before ∙ ap (λ z. sum_of_first factors n +ℤ z) (sym at) in
    let size : unsigned_abs (sum +ℤ more) ≤ sum_by (λ factor. unsigned_abs factor.w) factors = subst (λ z. unsigned_abs z ≤ sum_by (λ factor. unsigned_abs factor.w) factors) (sym value) (first_size factors (suc n) (omega arith)) in
    record {
      own = fits_signed_from_abs w128 more (omega (arith, get_or-le-sum_by (λ (factor : Weighed). unsigned_abs factor.w) factors n no_weight inside));
      both = fits_signed_from_abs w128 (sum +ℤ more) (omega arith);
      value = rw add-one value;
    }

first_all : (factors : List Weighed) → sum_of_first factors (length factors) ≡ sum_of factors
first_all factors = total_by-places (λ (factor : Weighed). factor.w) factors no_weight (at_place (amounts factors)) (λ i h. get_or-map (λ (factor : Weighed). factor.w) factors i no_weight (pos 0) h)

pub sum_is : (factors : List Weighed) (n : ℕ) (sum : ℤ) → n ≡ length factors → sum ≡ sum_of_first factors n → sum ≡ sum_of factors
sum_is factors n sum done e = e ∙ ap (sum_of_first factors) done ∙ first_all factors

pub sum_size : (factors : List Weighed) (n : ℕ) (sum : ℤ) → n ≤ length factors → sum ≡ sum_of_first factors n → unsigned_abs sum ≤ sum_by (λ factor. unsigned_abs factor.w) factors
sum_size factors n sum h e = subst (λ z. unsigned_abs z ≤ sum_by (λ factor. unsigned_abs factor.w) factors) (sym e) (first_size factors n h)
