-- A sum over a list, one element more at a time.
use Rattle.std.proofs.Common.{◌≡◌, ◌^◌, ℕ, ◌+◌, ◌<◌, ◌≤◌, List, [], ◌∷◌, length, take, get_or, FitsSigned, sym, ap, ◌∙◌, subst, ℤ, ◌+ℤ◌, unsigned_abs, arith}
use Rattle.std.specs.Prelude.{sum_by}
use Rattle.std.specs.Int.{w128}
use Rattle.std.proofs.lemmas.Int.{ints, fits_signed_from_abs}
use Rattle.std.proofs.lemmas.List.{take_more}
use Rattle.std.proofs.lemmas.List.Sums.{sum_by-take-le, get_or-le-sum_by}
use Rattle.measured_bucket.specs.SimmRules.Sums.{total_by}
use Rattle.measured_bucket.proofs.FactorBook.Sums.{total_by-append}
use Rattle.measured_bucket.proofs.Lists.{each_always}
use Rattle.measured_bucket.proofs.Sizes.{total_size, sum_by-below}

module _ {X : Type 0} (part : X → ℤ) (size : X → ℕ) (within : (x : X) → unsigned_abs (part x) ≤ size x) where
  total_small : (xs : List X) → unsigned_abs (total_by part xs) ≤ sum_by size xs
  total_small xs = omega (arith, total_size part xs, sum_by-below (λ x. unsigned_abs (part x)) size xs (each_always (λ x. unsigned_abs (part x) ≤ size x) within xs))

  module _ (xs : List X) (i : ℕ) (d : X) (inside : i < length xs) where
    total_more : total_by part (take (i + 1) xs) ≡ total_by part (take i xs) +ℤ part (get_or xs i d)
    total_more = ap (total_by part) (take_more xs i d inside) ∙ total_by-append part (take i xs) (get_or xs i d ∷ []) ∙ ap (λ z. total_by part (take i xs) +ℤ z) (omega (arith, ints))

    -- it fits where the sizes are small
    pub record SumStep (sum more : ℤ) : Type 0 where
      pub own : FitsSigned w128 more
      pub both : FitsSigned w128 (sum +ℤ more)
      pub value : sum +ℤ more ≡ total_by part (take (i + 1) xs)

    pub sum_step : (sum more : ℤ) → sum_by size xs ≤ 10 ^ 17 → sum ≡ total_by part (take i xs) → more ≡ part (get_or xs i d) → SumStep sum more
    sum_step sum more small before is =
        let value : sum +ℤ more ≡ total_by part (take (i + 1) xs) = ap (λ z. z +ℤ more) before ∙ ap (λ z. total_by part (take i xs) +ℤ z) is ∙ sym total_more in
        let whole : unsigned_abs (sum +ℤ more) ≤ 10 ^ 17 = subst (λ z. unsigned_abs z ≤ 10 ^ 17) (sym value) (omega (arith, total_small (take (i + 1) xs), sum_by-take-le size xs (i + 1))) in
        let own : unsigned_abs more ≤ 10 ^ 17 = subst (λ z. unsigned_abs z ≤ 10 ^ 17) (sym is) (omega (arith, within (get_or xs i d), get_or-le-sum_by size xs i d inside)) in
        record {
          own = fits_signed_from_abs w128 more (omega arith);
          both = fits_signed_from_abs w128 (sum +ℤ more) (omega arith);
          value = value;
        }
