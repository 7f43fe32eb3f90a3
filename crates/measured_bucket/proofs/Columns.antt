-- What is known of factors that were weighed each from its amount.
use Rattle.std.proofs.Common.{◌≡◌, ◌^◌, ℕ, suc, ◌+◌, ◌*◌, ◌<◌, ◌≤◌, List, [], ◌∷◌, map, length, sym, ap, ◌∙◌, ℤ, pos, ◌*ℤ◌, ◌≤ℤ◌, ◌<ℤ◌, unsigned_abs, All, arith}
use Rattle.std.specs.Prelude.{sum_by}
use Rattle.std.specs.List.{AllByRecursion}
use Rattle.std.proofs.lemmas.Int.{ints}
use Rattle.std.proofs.lemmas.List.{length-map}
use Rattle.std.proofs.lemmas.List.Sums.{sum_by-cons}
use Rattle.std.proofs.lemmas.Simd.{map-map}
use Rattle.simm_params.specs.SimmRules.Risks.{Amount}
use Rattle.simm_params.specs.SimmRules.Concentration.{one}
use Rattle.simm_params.specs.SimmRules.Bucket.{Weighted}
use Rattle.simm_params.specs.SimmRules.Gross.{size_by}
use Rattle.weighted_bucket.specs.declared.weighed.Weighed.{Weighed}
use Rattle.measured_bucket.specs.Measured.{IsNear}
use Rattle.measured_bucket.specs.Values.{weighed_as}
use Rattle.measured_bucket.proofs.Lists.{each_always, each_weaker}
use Rattle.measured_bucket.proofs.Sizes.{size_one, size_all, size_is, sum_by-map}
use Rattle.measured_bucket.proofs.Thick.{all_made}

-- one of them: so many units of its weighted value are at most its weighted size, so many times, and so many cents
pub record IsClose {A : Type 0} (unit times cents : ℕ) (weight : A → ℤ) (a : Amount A) (f : Weighed) : Type 0 where
  pub from_one : one ≤ℤ f.cr.0
  pub below : f.cr.0 <ℤ pos 347000000
  pub close : unsigned_abs f.w * unit ≤ size_one weight a * times + cents * unit

-- all of them
pub record IsColumn {A : Type 0} (unit times cents : ℕ) (weight : A → ℤ) (amounts : List (Amount A)) (W : Amount A → Weighted A) (factors : List Weighed) : Type 0 where
  pub made : factors ≡ map weighed_as (map W amounts)
  pub count : length factors ≡ length amounts
  pub from_one : All (λ factor. one ≤ℤ factor.cr.0) factors
  pub below : All (λ factor. factor.cr.0 <ℤ pos 347000000) factors
  pub in_range : sum_by (λ factor. unsigned_abs factor.w) factors < 84 * 10 ^ 14
  pub near : IsNear unit times cents weight amounts (sum_by (λ factor. unsigned_abs factor.w) factors)

module _ {A : Type 0} (unit times cents : ℕ) (weight : A → ℤ) (positive : (x : A) → pos 0 ≤ℤ weight x) (W : Amount A → Weighted A) where
  abbrev V : Amount A → Weighed
  V a = weighed_as (W a)

  abbrev pub IsCloseOne : Amount A → Type 0
  IsCloseOne a = IsClose unit times cents weight a (weighed_as (W a))

  gross_close : (amounts : List (Amount A)) → AllByRecursion IsCloseOne amounts → sum_by (λ a. unsigned_abs (V a).w) amounts * unit ≤ size_all weight amounts * times + length amounts * (cents * unit)
  gross_close [] close = omega arith
  gross_close (a ∷ amounts) close =
      let whole : sum_by (λ b. unsigned_abs (V b).w) (a ∷ amounts) * unit ≡ (unsigned_abs (V a).w + sum_by (λ b. unsigned_abs (V b).w) amounts) * unit = ap (λ n. n * unit) (sum_by-cons (λ b. unsigned_abs (V b).w) a amounts) in
      let sizes : size_all weight (a ∷ amounts) * times ≡ (size_one weight a + size_all weight amounts) * times = ap (λ n. n * times) (sum_by-cons (size_one weight) a amounts) in
      let count : suc (length amounts) * (cents * unit) ≡ cents * unit + length amounts * (cents * unit) = omega arith in
      omega (arith, gross_close amounts close.1, close.0.close)

  -- where such a gross size is in range
  module _ (amounts : List (Amount A)) (close : AllByRecursion (λ a. IsClose unit times cents weight a (weighed_as (W a))) amounts) (small : (gross : ℕ) → gross * unit ≤ size_all weight amounts * times + length amounts * (cents * unit) → gross < 84 * 10 ^ 14) (factors : List Weighed) (made : factors ≡ map (λ a. weighed_as (W a)) amounts) where
    gross_most : sum_by (λ factor. unsigned_abs factor.w) factors * unit ≤ size_all weight amounts * times + length amounts * (cents * unit)
    gross_most =
        omega (
          arith,
          ap (λ fs. sum_by (λ (factor : Weighed). unsigned_abs factor.w) fs * unit) made,
          ap (λ n. n * unit) (sum_by-map (λ (factor : Weighed). unsigned_abs factor.w) V amounts),
          gross_close amounts close,
        )

    near : IsNear unit times cents weight amounts (sum_by (λ factor. unsigned_abs factor.w) factors)
    near =
        let product : size_by weight amounts *ℤ pos times ≡ pos (size_all weight amounts * times) = ap (λ z. z *ℤ pos times) (size_is weight positive amounts) in
        omega (arith, ints, gross_most)

    -- each of the list is close
    pub column_of_close : IsColumn unit times cents weight amounts W factors
    column_of_close = record {
      made = made ∙ sym (map-map (λ (f : Weighted A). weighed_as f) W amounts);
      count = ap length made ∙ length-map amounts V;
      from_one = all_made (λ (factor : Weighed). one ≤ℤ factor.cr.0) V amounts factors made (each_weaker IsCloseOne (λ a. one ≤ℤ (V a).cr.0) (λ a its. its.from_one) amounts close);
      below = all_made (λ (factor : Weighed). factor.cr.0 <ℤ pos 347000000) V amounts factors made (each_weaker IsCloseOne (λ a. (V a).cr.0 <ℤ pos 347000000) (λ a its. its.below) amounts close);
      in_range = small (sum_by (λ factor. unsigned_abs factor.w) factors) gross_most;
      near = near;
    }

  -- and so where every amount is
  module _ (each : (a : Amount A) → IsClose unit times cents weight a (weighed_as (W a))) (amounts : List (Amount A)) where
    pub is_column : ((gross : ℕ) → gross * unit ≤ size_all weight amounts * times + length amounts * (cents * unit) → gross < 84 * 10 ^ 14) → (factors : List Weighed) → factors ≡ map (λ a. weighed_as (W a)) amounts → IsColumn unit times cents weight amounts W factors
    is_column = column_of_close amounts (each_always IsCloseOne each amounts)
