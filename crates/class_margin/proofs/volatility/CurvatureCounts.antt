-- How many volatilities the listed buckets of a class have together: each has one bucket.
use Rattle.std.proofs.Common.{◌≡◌, List, [], ◌∷◌, map, length, Bool, true, false, ◌&&◌, if◌then◌else◌, Option, Some, None, refl, ap, ℤ, pos, ◌+ℤ◌, ◌≤ℤ◌, arith}
use Rattle.std.specs.List.{find}
use Rattle.std.proofs.lemmas.Int.{ints}
use Rattle.class_rates.specs.SimmKinds.declared.bucket.Bucket.{Bucket}
use Rattle.class_rates.specs.SimmKinds.Order.{same_bucket}
use Rattle.class_rates.specs.SimmRules.Params.{Params, CreditBucket, PricedBucket}
use Rattle.class_rates.specs.SimmRules.Sums.{total_by}
use Rattle.class_rates.specs.SimmRules.Net.{Sensitivity}
use Rattle.class_rates.specs.SimmRules.Risks.{Risk, Of_credit_volatility, Of_price_volatility, risk, select}
use Rattle.class_rates.specs.SimmRules.declared.classes.CreditClass.{CreditClass}
use Rattle.class_rates.specs.SimmRules.declared.classes.PricedClass.{PricedClass}
use Rattle.class_rates.specs.SimmRules.Credit.{same_credit, as_credit_volatility, credit_params}
use Rattle.class_rates.specs.SimmRules.Priced.{same_priced, as_price_volatility, priced_params}
use Rattle.class_rates.specs.SimmParams.Buckets.{AreInOrder}
use Rattle.class_rates.proofs.FactorBook.Sums.{total_by-agree, total_by-add}
use Rattle.book_range.specs.Weights.{rate_found}
use Rattle.book_range.proofs.Listed.{total_found}
use Rattle.book_range.proofs.Weighed.{total_zero}
use Rattle.class_rates.proofs.MeasuredBucket.Selected.{select_none, select_some}

-- whether there is one
abbrev one_of : {A : Type 0} → Option A → ℤ
one_of o = rate_found (λ a. pos 1) o

at_most_one : {A : Type 0} (o : Option A) → one_of o ≤ℤ pos 1
at_most_one None = omega (arith, ints)
at_most_one (Some a) = omega (arith, ints)

one_where : {A : Type 0} (a : A) (t : Bool) → one_of (if t then Some a else None) ≡ (if t then pos 1 else pos 0)
one_where a true = refl
one_where a false = refl

-- ---- what is in one bucket at most

module _ {X A : Type 0} (sort : X → Risk → Option A) (xs : List X) (once : (r : Risk) → total_by (λ x. one_of (sort x r)) xs ≤ℤ pos 1) where
  one_more : (s : Sensitivity) (ss : List Sensitivity) (x : X) → pos (length (select (sort x) (s ∷ ss))) ≡ one_of (sort x (risk s.key.factor)) +ℤ pos (length (select (sort x) ss))
  one_more s ss x = by (sort x (risk s.key.factor)) refl
    where
      by : (o : Option A) → sort x (risk s.key.factor) ≡ o → pos (length (select (sort x) (s ∷ ss))) ≡ one_of (sort x (risk s.key.factor)) +ℤ pos (length (select (sort x) ss))
      by None e = omega (arith, ints, ap length (select_none (sort x) s ss e), ap one_of e)
      by (Some a) e = omega (arith, ints, ap length (select_some (sort x) s ss a e), ap one_of e)

  counted : (ss : List Sensitivity) → total_by (λ x. pos (length (select (sort x) ss))) xs ≤ℤ pos (length ss)
  counted [] = omega (arith, ints, total_zero xs)
  counted (s ∷ ss) =
      let own : X → ℤ = λ x. one_of (sort x (risk s.key.factor)) in
      let rest : X → ℤ = λ x. pos (length (select (sort x) ss)) in
      omega (arith, ints, total_by-agree (λ x. pos (length (select (sort x) (s ∷ ss)))) (λ x. own x +ℤ rest x) (one_more s ss) xs, total_by-add own rest xs, once (risk s.key.factor), counted ss)

-- ---- one bucket has an id

module _ {X A : Type 0} (id : X → Bucket) (xs : List X) (order : AreInOrder (map id xs)) where
  found_once : (a : A) (t : Bool) (b : Bucket) → total_by (λ x. one_of (if t && same_bucket b (id x) then Some a else None)) xs ≤ℤ pos 1
  found_once a true b =
      omega (
        arith,
        ints,
        total_by-agree (λ x. one_of (if same_bucket b (id x) then Some a else None)) (λ x. if same_bucket b (id x) then pos 1 else pos 0) (λ x. one_where a (same_bucket b (id x))) xs,
        total_found id (λ x. pos 1) b xs order,
        at_most_one (find (λ x. same_bucket b (id x)) xs),
      )
  found_once a false b = omega (arith, ints, total_zero xs)

module _ (p : Params) (ss : List Sensitivity) where
  pub credit_count : (c : CreditClass) → AreInOrder (map (λ b. (b.terms).id) (credit_params p c).buckets) → total_by (λ b. pos (length (select (as_credit_volatility c (b.terms).id) ss))) (credit_params p c).buckets ≤ℤ pos (length ss)
  credit_count c order = counted (λ (b : CreditBucket). as_credit_volatility c (b.terms).id) (credit_params p c).buckets once ss
    where
      once : (r : Risk) → total_by (λ b. one_of (as_credit_volatility c (b.terms).id r)) (credit_params p c).buckets ≤ℤ pos 1
      once (Of_credit_volatility d b point) = found_once (λ (x : CreditBucket). (x.terms).id) (credit_params p c).buckets order point (same_credit d c) b
      once _ = omega (arith, ints, total_zero (credit_params p c).buckets)

  pub priced_count : (c : PricedClass) → AreInOrder (map (λ b. (b.terms).id) (priced_params p c).buckets) → total_by (λ b. pos (length (select (as_price_volatility c (b.terms).id) ss))) (priced_params p c).buckets ≤ℤ pos (length ss)
  priced_count c order = counted (λ (b : PricedBucket). as_price_volatility c (b.terms).id) (priced_params p c).buckets once ss
    where
      once : (r : Risk) → total_by (λ b. one_of (as_price_volatility c (b.terms).id r)) (priced_params p c).buckets ≤ℤ pos 1
      once (Of_price_volatility d b name tenor) = found_once (λ (x : PricedBucket). (x.terms).id) (priced_params p c).buckets order _ (same_priced d c) b
      once _ = omega (arith, ints, total_zero (priced_params p c).buckets)
