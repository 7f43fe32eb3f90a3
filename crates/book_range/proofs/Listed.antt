-- Sums over the buckets that a file lists: at most one has an id.
use Rattle.std.proofs.Common.{◌≡◌, ℕ, ◌<◌, ◌≤◌, List, [], ◌∷◌, map, Bool, true, false, ◌==◌, cond, if◌then◌else◌, Some, refl, sym, ap, ◌∙◌, ℤ, pos, ◌+ℤ◌, le_refl, arith}
use Rattle.std.specs.List.{find, AllByRecursion}
use Rattle.std.specs.Ordering.{nat_cmp, ordering_then, is_eq}
use Rattle.std.specs.declared.cmp.Ordering.{Ordering}
use Rattle.std.specs.declared.cmp.Ordering.TheVariants.{Less, Equal, Greater}
use Rattle.std.proofs.lemmas.Bool.{false≢true, ne_eqb, eqb-true}
use Rattle.std.proofs.lemmas.Bool.Decides.{nat_tests}
use Rattle.std.proofs.lemmas.Int.{ints}
use Rattle.simm_params.specs.SimmKinds.declared.bucket.Bucket.{Bucket}
use Rattle.simm_params.specs.SimmKinds.declared.bucket.Bucket.TheVariants as bucket
use Rattle.simm_params.specs.SimmKinds.Order.{same_bucket}
use Rattle.simm_params.specs.SimmRules.Sums.{total_by}
use Rattle.simm_params.specs.Buckets.{bucket_slot, AreInOrder}
use Rattle.book_range.specs.Weights.{rate_found}

then_Equal : (o : Ordering) → ordering_then o Equal ≡ o
then_Equal Less = refl
then_Equal Equal = refl
then_Equal Greater = refl

is_eq-nat : (m n : ℕ) → is_eq (nat_cmp m n) ≡ (m == n)
is_eq-nat m n = grind (arith, nat_tests)

same_number : (m n : ℕ) → same_bucket (bucket.Number m) (bucket.Number n) ≡ (m == n)
same_number m n = ap is_eq (then_Equal (nat_cmp m n)) ∙ is_eq-nat m n

one_bucket : (a b : Bucket) → same_bucket a b ≡ true → a ≡ b
one_bucket (bucket.Number m) (bucket.Number n) h = ap bucket.Number (eqb-true m n (sym (same_number m n) ∙ h))
one_bucket (bucket.Number m) bucket.Residual h = absurd (false≢true h)
one_bucket bucket.Residual (bucket.Number n) h = absurd (false≢true h)
one_bucket bucket.Residual bucket.Residual h = refl

-- what stands in the order of buckets has different ids
apart : (a b : Bucket) → bucket_slot a < bucket_slot b → same_bucket a b ≡ false
apart (bucket.Number m) (bucket.Number n) h = same_number m n ∙ ne_eqb m n (λ e. let same : m ≡ n = e in omega arith)
apart (bucket.Number m) bucket.Residual h = refl
apart bucket.Residual (bucket.Number n) h = refl
apart bucket.Residual bucket.Residual h = absurd (omega arith)

module _ {X : Type 0} (id : X → Bucket) (rate : X → ℤ) where
  -- those after one come later
  after : (x : X) (a : Bucket) (xs : List X) → bucket_slot (id x) ≤ bucket_slot a → AreInOrder (a ∷ map id xs) → AllByRecursion (λ y. bucket_slot (id x) < bucket_slot (id y)) xs
  after x a [] h order = tt
  after x a (y ∷ ys) h order = let next : bucket_slot a < bucket_slot (id y) = order.0 in (omega arith, after x (id y) ys (omega arith) order.1)

  rest_in_order : (a : Bucket) (xs : List X) → AreInOrder (a ∷ map id xs) → AreInOrder (map id xs)
  rest_in_order a [] order = tt
  rest_in_order a (x ∷ xs) order = order.1

  abbrev only : Bucket → X → ℤ
  only b x = if same_bucket b (id x) then rate x else pos 0

  none_later : (x : X) (xs : List X) → AllByRecursion (λ y. bucket_slot (id x) < bucket_slot (id y)) xs → total_by (only (id x)) xs ≡ pos 0
  none_later x [] h = refl
  none_later x (y ∷ ys) h = ap (λ t. (if t then rate y else pos 0) +ℤ total_by (only (id x)) ys) (apart (id x) (id y) h.0) ∙ omega (arith, ints, none_later x ys h.1)

  -- the rate of the one that has the id
  pub total_found : (b : Bucket) (xs : List X) → AreInOrder (map id xs) → total_by (only b) xs ≡ rate_found rate (find (λ x. same_bucket b (id x)) xs)
  total_found b [] order = refl
  total_found b (x ∷ xs) order = by (same_bucket b (id x)) refl (total_found b xs (rest_in_order (id x) xs order))
    where
      by : (t : Bool) → same_bucket b (id x) ≡ t → total_by (only b) xs ≡ rate_found rate (find (λ y. same_bucket b (id y)) xs)
          → (if t then rate x else pos 0) +ℤ total_by (only b) xs ≡ rate_found rate (cond t (Some x) (find (λ y. same_bucket b (id y)) xs))
      by true e i =
          let others : total_by (only b) xs ≡ pos 0 =
          ap (λ c. total_by (only c) xs) (one_bucket b (id x) e) ∙ none_later x xs (after x (id x) xs (le_refl (bucket_slot (id x))) order) in
          omega (arith, ints, others)
      by false e i = omega (arith, ints, i)
