-- A bucket whose factors are negated: the same q, k, gross and cr, and the negated s and sum.
use Rattle.std.proofs.Common.{◌≡◌, List, map, ℤ, pos, neg_ℤ, ◌*ℤ◌, unsigned_abs, refl, sym, ap, ◌∙◌}
use Rattle.std.proofs.lemmas.Simd.{map-map}
use Rattle.factor_book.specs.MhUnits.Rounding.{up, clamp}
use Rattle.factor_book.specs.SimmRules.Risks.{Amount}
use Rattle.factor_book.specs.SimmRules.Concentration.{one}
use Rattle.factor_book.specs.SimmRules.Bucket.{Weighted, root_of, pair_sum, weighted_sum, bucket_value}
use Rattle.factor_book.proofs.SimmKinds.MhUnits.Roundings.{root_is}
use Rattle.factor_book.proofs.SimmKinds.MhUnits.Integers.{unsigned_abs-neg}
use Rattle.negated_book.specs.Negated.{negated_amount, negated_amounts, negated_value}
use Rattle.negated_book.proofs.Numbers.{neg-mul-neg, clamp-neg}
use Rattle.negated_book.proofs.Lists.{pairs_stay, total_stays, total_turns}
use Rattle.negated_book.proofs.Weighed.{negated_weighted}

-- a correlation reads what the factors are of and their concentration, and not their values
module _ {A : Type 0} (corr : Weighted A → Weighted A → ℤ) (blind : (k l : Weighted A) → corr (negated_weighted k) (negated_weighted l) ≡ corr k l) where
  pair_sum-negated : (fs : List (Weighted A)) → pair_sum corr (map negated_weighted fs) ≡ pair_sum corr fs
  pair_sum-negated fs =
      pairs_stay (λ k l. corr k l *ℤ k.w *ℤ l.w) negated_weighted
      (λ k l. ap (λ z. z *ℤ neg_ℤ k.w *ℤ neg_ℤ l.w) (blind k l) ∙ neg-mul-neg (corr k l) k.w l.w) fs

  weighted_sum-negated : (fs : List (Weighted A)) → weighted_sum (map negated_weighted fs) ≡ neg_ℤ (weighted_sum fs)
  weighted_sum-negated fs = total_turns (λ (k : Weighted A). k.w) negated_weighted (λ k. refl) fs

  held-negated : (fs : List (Weighted A)) → clamp (weighted_sum (map negated_weighted fs)) (root_of (pair_sum corr (map negated_weighted fs))) ≡ neg_ℤ (clamp (weighted_sum fs) (root_of (pair_sum corr fs)))
  held-negated fs =
      (λ i. clamp (weighted_sum-negated fs i) (root_of (pair_sum-negated fs i)))
      ∙ clamp-neg (weighted_sum fs) (root_of (pair_sum corr fs)) (root_is (up (pair_sum corr fs) one)).not_negative

  pub bucket_value-negated : (cr : ℤ) (fs : List (Weighted A)) → bucket_value corr cr (map negated_weighted fs) ≡ negated_value (bucket_value corr cr fs)
  bucket_value-negated cr fs = λ i. record {
    q = pair_sum-negated fs i;
    k = root_of (pair_sum-negated fs i);
    s = held-negated fs i;
    sum = weighted_sum-negated fs i;
    gross = total_stays (λ (k : Weighted A). pos (unsigned_abs k.w)) negated_weighted (λ k. ap pos (unsigned_abs-neg k.w)) fs i;
    cr = record { 0 = cr };
  }

  -- of factors that are made of things
  pub of_things : {X : Type 0} (cr : ℤ) (factor other : X → Weighted A) → ((x : X) → other x ≡ negated_weighted (factor x)) → (xs : List X) → bucket_value corr cr (map other xs) ≡ negated_value (bucket_value corr cr (map factor xs))
  of_things cr factor other each xs =
      ap (bucket_value corr cr) (ap (λ f. map f xs) (λ i x. each x i) ∙ sym (map-map negated_weighted factor xs)) ∙ bucket_value-negated cr (map factor xs)

  -- of factors that are made of amounts
  pub of_amounts : {X : Type 0} (cr : ℤ) (factor other : Amount X → Weighted A) → ((a : Amount X) → other (negated_amount a) ≡ negated_weighted (factor a)) → (amounts : List (Amount X)) → bucket_value corr cr (map other (negated_amounts amounts)) ≡ negated_value (bucket_value corr cr (map factor amounts))
  of_amounts cr factor other each amounts =
      ap (bucket_value corr cr) (map-map other negated_amount amounts) ∙ of_things cr factor (λ a. other (negated_amount a)) each amounts
