-- The terms of buckets that a file lists: no weight is 0.
use Rattle.std.proofs.Common.{◌≡◌, ℕ, ◌<◌, ◌≤◌, List, [], ◌∷◌, map, Bool, true, false, ◌==◌, cond, Option, Some, refl, ap, ◌∙◌, subst, le_refl, arith}
use Rattle.std.specs.List.{find, AllByRecursion}
use Rattle.std.specs.Ordering.{nat_cmp, is_eq}
use Rattle.std.proofs.lemmas.Bool.{ne_eqb}
use Rattle.std.proofs.lemmas.Cmp.{nat_list_cmp_total, tied_itself}
use Rattle.std.proofs.lemmas.List.Elements.{recursion_from_All}
use Rattle.simm_params.specs.SimmKinds.declared.bucket.Bucket.{Bucket}
use Rattle.simm_params.specs.SimmKinds.declared.bucket.Bucket.TheVariants as bucket
use Rattle.simm_params.specs.SimmKinds.Order.{same_bucket, bucket_numbers}
use Rattle.simm_params.specs.Buckets.{bucket_slot, AreInOrder}
use Rattle.measured_bucket.proofs.Keys.{then_Equal, is_eq-nat}
use Rattle.simm_params.specs.SimmRules.Params.{Params, CreditBucket, PricedBucket}
use Rattle.simm_params.specs.SimmRules.declared.classes.CreditClass.{CreditClass}
use Rattle.simm_params.specs.SimmRules.declared.classes.CreditClass.TheVariants.{Qualifying, NonQualifying}
use Rattle.simm_params.specs.SimmRules.declared.classes.PricedClass.{PricedClass}
use Rattle.simm_params.specs.SimmRules.declared.classes.PricedClass.TheVariants.{Equities, Commodities}
use Rattle.simm_params.specs.SimmRules.Credit.{credit_params}
use Rattle.simm_params.specs.SimmRules.Priced.{priced_params}
use Rattle.simm_params.specs.ClassRanges.{IsCreditBucket, IsPricedBucket}
use Rattle.simm_params.specs.Facts.{IsParams, IsCreditParams, IsPricedParams}
use Rattle.simm_params.specs.ListedBuckets.{credit_bucket_of, priced_bucket_of}
use Rattle.simm_params.specs.Weighed.{IsWeighedCredit, IsWeighedPriced}
use Rattle.measured_bucket.specs.Values.{AreTerms}

found_step : {X : Type 0} (P : X → Type 0) (t : Bool) (x y : X) (rest : Option X) → P x → (rest ≡ Some y → P y) → cond t (Some x) rest ≡ Some y → P y
found_step P true x y rest p f h = let same : x ≡ y = cc in subst P same p
found_step P false x y rest p f h = f h

-- what is so of each is so of the one that is found
pub found : {X : Type 0} (P : X → Type 0) (test : X → Bool) (xs : List X) (y : X) → AllByRecursion P xs → find test xs ≡ Some y → P y
found P test [] y each h = absurd (cc)
found P test (x ∷ xs) y each h = found_step P (test x) x y (find test xs) each.0 (found P test xs y each.1) h

-- ---- credit

credit_of : (p : Params) → IsParams p → (class : CreditClass) → IsCreditParams (credit_params p class)
credit_of p facts Qualifying = facts.credit_q
credit_of p facts NonQualifying = facts.credit_nq

pub credit_terms : (p : Params) → IsParams p → (class : CreditClass) (at : Bucket) (b : CreditBucket) → credit_bucket_of (credit_params p class).buckets at ≡ Some b → IsWeighedCredit b → AreTerms (b.terms).weight ((b.terms).thresholds).delta
credit_terms p facts class at b e weighed =
    let its = found IsCreditBucket (λ c. same_bucket at (c.terms).id) (credit_params p class).buckets b (recursion_from_All IsCreditBucket (credit_params p class).buckets (credit_of p facts class).ranged.buckets) e in
    record { weighed = weighed.terms.delta; some = its.terms.weight.low }

-- ---- equity and commodities

priced_of : (p : Params) → IsParams p → (class : PricedClass) → IsPricedParams (priced_params p class)
priced_of p facts Equities = facts.equity
priced_of p facts Commodities = facts.commodity

pub priced_terms : (p : Params) → IsParams p → (class : PricedClass) (at : Bucket) (b : PricedBucket) → priced_bucket_of (priced_params p class).buckets at ≡ Some b → IsWeighedPriced b → AreTerms (b.terms).weight ((b.terms).thresholds).delta
priced_terms p facts class at b e weighed =
    let its = found IsPricedBucket (λ c. same_bucket at (c.terms).id) (priced_params p class).buckets b (recursion_from_All IsPricedBucket (priced_params p class).buckets (priced_of p facts class).ranged.buckets) e in
    record { weighed = weighed.terms.delta; some = its.terms.weight.low }

-- ---- buckets by their ids

-- what stands in the order of buckets has different ids
same_number : (m n : ℕ) → same_bucket (bucket.Number m) (bucket.Number n) ≡ (m == n)
same_number m n = ap is_eq (then_Equal (nat_cmp m n)) ∙ is_eq-nat m n

apart : (a b : Bucket) → bucket_slot a < bucket_slot b → same_bucket b a ≡ false
apart (bucket.Number m) (bucket.Number n) h = same_number n m ∙ ne_eqb n m (λ e. let same : n ≡ m = e in omega arith)
apart (bucket.Number m) bucket.Residual h = refl
apart bucket.Residual (bucket.Number n) h = refl
apart bucket.Residual bucket.Residual h = absurd (omega arith)

module _ {X : Type 0} (id : X → Bucket) where
  -- those after one come later
  after : (x : X) (a : Bucket) (xs : List X) → bucket_slot (id x) ≤ bucket_slot a → AreInOrder (a ∷ map id xs) → AllByRecursion (λ y. bucket_slot (id x) < bucket_slot (id y)) xs
  after x a [] h order = tt
  after x a (y ∷ ys) h order = let next : bucket_slot a < bucket_slot (id y) = order.0 in (omega arith, after x (id y) ys (omega arith) order.1)

  rest_in_order : (a : Bucket) (xs : List X) → AreInOrder (a ∷ map id xs) → AreInOrder (map id xs)
  rest_in_order a [] order = tt
  rest_in_order a (x ∷ xs) order = order.1

  found_later : (x : X) (xs ys : List X) → AllByRecursion (λ y. bucket_slot (id x) < bucket_slot (id y)) ys → AllByRecursion (λ y. find (λ z. same_bucket (id y) (id z)) xs ≡ Some y) ys → AllByRecursion (λ y. find (λ z. same_bucket (id y) (id z)) (x ∷ xs) ≡ Some y) ys
  found_later x xs [] h g = tt
  found_later x xs (y ∷ ys) h g =
      (ap (λ t. cond t (Some x) (find (λ z. same_bucket (id y) (id z)) xs)) (apart (id x) (id y) h.0) ∙ g.0, found_later x xs ys h.1 g.1)

  -- each is the one that is found by its id
  found_own : (xs : List X) → AreInOrder (map id xs) → AllByRecursion (λ x. find (λ y. same_bucket (id x) (id y)) xs ≡ Some x) xs
  found_own [] order = tt
  found_own (x ∷ xs) order = (
    ap (λ o. cond (is_eq o) (Some x) (find (λ y. same_bucket (id x) (id y)) xs)) (tied_itself nat_list_cmp_total (bucket_numbers (id x))),
    found_later x xs xs (after x (id x) xs (le_refl (bucket_slot (id x))) order) (found_own xs (rest_in_order (id x) xs order)),
  )

pub credit_found : (p : Params) → IsParams p → (class : CreditClass) → AllByRecursion (λ b. credit_bucket_of (credit_params p class).buckets (b.terms).id ≡ Some b) (credit_params p class).buckets
credit_found p facts class = found_own (λ (b : CreditBucket). (b.terms).id) (credit_params p class).buckets (credit_of p facts class).ranged.in_order

pub priced_found : (p : Params) → IsParams p → (class : PricedClass) → AllByRecursion (λ b. priced_bucket_of (priced_params p class).buckets (b.terms).id ≡ Some b) (priced_params p class).buckets
priced_found p facts class = found_own (λ (b : PricedBucket). (b.terms).id) (priced_params p class).buckets (priced_of p facts class).ranged.in_order
