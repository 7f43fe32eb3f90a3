-- The engine's value of a column is the rule's value of its factors.
use Rattle.std.proofs.Common.{◌≡◌, ◌≢◌, ℕ, ◌<◌, List, [], ◌∷◌, map, length, get_or, Bool, ◌==◌, ℤ, refl, sym, ap, ◌∙◌, arith}
use Rattle.std.specs.declared.cmp.Ordering.{Ordering}
use Rattle.std.specs.Ordering.{is_eq}
use Rattle.std.specs.Cmp.{IsTotalOrder}
use Rattle.std.specs.List.Sorted.{IsStrictlySortedBy}
use Rattle.std.proofs.lemmas.List.{get_or-map, length-map}
use Rattle.simm_params.specs.SimmRules.Risks.{Amount}
use Rattle.simm_params.specs.SimmRules.Bucket.{Weighted}
use Rattle.weighted_bucket.specs.declared.scaling.Scaling.{Scaling}
use Rattle.weighted_bucket.specs.declared.scaling.Scaling.TheVariants as scaling
use Rattle.weighted_bucket.specs.declared.weighed.Weighed.{Weighed}
use Rattle.weighted_bucket.specs.Bucket.{bucket_value}
use Rattle.weighted_bucket.proofs.OverKeys.{bucket_value-factors}
use Rattle.measured_bucket.specs.Measured.{value_by, AreCorrelated}
use Rattle.measured_bucket.specs.Values.{weighed_as}
use Rattle.measured_bucket.proofs.Lists.{same_place}

pub valued : {A : Type 0} (way : Scaling) (same : A → A → Bool) (R : A → A → ℤ) (fs : List (Weighted A)) (factors : List Weighed) (rho : ℕ → ℕ → ℤ) (cr : ℤ) → factors ≡ map weighed_as fs → AreCorrelated same R fs rho
    → bucket_value way factors rho (record { 0 = cr }) ≡ value_by way same R cr fs
valued way same R [] factors rho cr made its = ap (λ xs. bucket_value way xs rho (record { 0 = cr })) made ∙ none way
  where
    none : (v : Scaling) → bucket_value v [] rho (record { 0 = cr }) ≡ value_by v same R cr []
    none scaling.Concentrated = refl
    none scaling.Plain = refl
    none scaling.Squared = refl
valued way same R (f ∷ fs) factors rho cr made its = by way
  where
    by : (v : Scaling) → bucket_value v factors rho (record { 0 = cr }) ≡ value_by v same R cr (f ∷ fs)
    by scaling.Concentrated = bucket_value-factors scaling.Concentrated R same (f ∷ fs) f factors rho cr made (λ i j. its.are i j f) (λ i j. its.tells i j f)
    by scaling.Plain = bucket_value-factors scaling.Plain R same (f ∷ fs) f factors rho cr made (λ i j. its.are i j f) (λ i j. its.tells i j f)
    by scaling.Squared = bucket_value-factors scaling.Squared R same (f ∷ fs) f factors rho cr made (λ i j. its.are i j f) (λ i j. its.tells i j f)

-- factors that ascend by what they are of, which `same` tells apart
module _ {A : Type 0} (cmp : A → A → Ordering) (order : IsTotalOrder cmp) (same : A → A → Bool) (tests : (x y : A) → same x y ≡ is_eq (cmp x y)) (R : A → A → ℤ) (W : Amount A → Weighted A) (of_same : (a : Amount A) → (W a).of ≡ a.of) (none : Amount A) (amounts : List (Amount A)) (ascends : IsStrictlySortedBy cmp (map (λ a. a.of) amounts)) where
  at_place : (i : ℕ) (d : Weighted A) → i < length amounts → (get_or (map W amounts) i d).of ≡ (get_or amounts i none).of
  at_place i d l = ap (λ (f : Weighted A). f.of) (get_or-map W amounts i none d l) ∙ of_same (get_or amounts i none)

  inside : (i : ℕ) → i < length (map W amounts) → i < length amounts
  inside i l = omega (arith, length-map amounts W)

  tells : (i j : ℕ) (d : Weighted A) → i < length (map W amounts) → j < length (map W amounts) → same (get_or (map W amounts) i d).of (get_or (map W amounts) j d).of ≡ (i == j)
  tells i j d l m =
      let of = λ (a : Amount A). a.of in
      let count : length (map of amounts) ≡ length amounts = length-map amounts of in
      let first : get_or (map of amounts) i none.of ≡ (get_or (map W amounts) i d).of = get_or-map of amounts i none none.of (inside i l) ∙ sym (at_place i d (inside i l)) in
      let second : get_or (map of amounts) j none.of ≡ (get_or (map W amounts) j d).of = get_or-map of amounts j none none.of (inside j m) ∙ sym (at_place j d (inside j m)) in
      tests (get_or (map W amounts) i d).of (get_or (map W amounts) j d).of
      ∙ ap (λ k. is_eq (cmp k (get_or (map W amounts) j d).of)) (sym first) ∙ ap (λ k. is_eq (cmp (get_or (map of amounts) i none.of) k)) (sym second)
      ∙ same_place cmp order (map of amounts) i j none.of ascends (omega (arith, inside i l)) (omega (arith, inside j m))

  pub correlated : (rho : ℕ → ℕ → ℤ) → ((i j : ℕ) → i < length amounts → j < length amounts → i ≢ j → rho i j ≡ R (get_or amounts i none).of (get_or amounts j none).of) → AreCorrelated same R (map W amounts) rho
  correlated rho rho_is = record {
    are = λ i j d l m apart. rho_is i j (inside i l) (inside j m) apart ∙ ap (λ x. R x (get_or amounts j none).of) (sym (at_place i d (inside i l))) ∙ ap (λ y. R (get_or (map W amounts) i d).of y) (sym (at_place j d (inside j m)));
    tells = tells;
  }
