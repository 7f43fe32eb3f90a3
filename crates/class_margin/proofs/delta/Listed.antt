-- A class of which the file lists buckets: the one of an id.
use Rattle.std.proofs.Common.{◌≡◌, ◌<◌, ◌≤◌, List, [], ◌∷◌, map, Option, Some, None, Bool, true, false, ◌||◌, cond, refl, sym, ap, ◌∙◌, ℤ, pos, ◌+ℤ◌, ◌≤ℤ◌, arith, le_refl}
use Rattle.std.specs.Prelude.{is_some, option_map}
use Rattle.std.specs.declared.cmp.Ordering.TheVariants.{Less}
use Rattle.std.specs.Ordering.{is_eq}
use Rattle.std.specs.List.{filter, find, AllByRecursion}
use Rattle.std.proofs.lemmas.Bool.{false≢true}
use Rattle.std.proofs.lemmas.Cmp.{eq_by_cmp_equiv}
use Rattle.std.proofs.lemmas.Int.{ints}
use Rattle.std.proofs.lemmas.Map.Lookups.{exact_bytes}
use Rattle.class_rates.specs.SimmKinds.declared.kinds.BucketId.{BucketId}
use Rattle.class_rates.specs.SimmKinds.declared.bucket.Bucket.{Bucket}
use Rattle.class_rates.specs.SimmKinds.declared.bucket.Bucket.TheVariants as bucket
use Rattle.class_rates.specs.SimmKinds.Factors.{bucket_id_of}
use Rattle.class_rates.specs.SimmKinds.Order.{bucket_numbers, same_bucket, bucket_id_cmp, same_bucket_id}
use Rattle.class_rates.proofs.SimmKinds.Variants.{is_eq-Equal}
use Rattle.class_rates.specs.SimmRules.Sums.{total_by}
use Rattle.class_rates.specs.SimmRules.Admits.{lists}
use Rattle.class_rates.specs.SimmParams.Buckets.{bucket_slot, AreInOrder}
use Rattle.book_range.proofs.Buckets.{id_total}
use Rattle.class_rates.proofs.MeasuredBucket.Keys.{bucket_ids}
use Rattle.class_rates.proofs.MeasuredBucket.Lists.{each_weaker}
use Rattle.class_margin.proofs.delta.Bounds.{total_low}

-- ---- a bucket is known by its numbers

one_bucket : (a b : Bucket) → bucket_numbers a ≡ bucket_numbers b → a ≡ b
one_bucket (bucket.Number m) (bucket.Number n) e = cc
one_bucket (bucket.Number m) bucket.Residual e = absurd (cc)
one_bucket bucket.Residual (bucket.Number n) e = absurd (cc)
one_bucket bucket.Residual bucket.Residual e = refl

exact : (a b : Bucket) → same_bucket a b ≡ true → a ≡ b
exact a b e = one_bucket a b (exact_bytes (bucket_numbers a) (bucket_numbers b) (is_eq-Equal _ e))

not_same : (a b : Bucket) → bucket_slot a < bucket_slot b → same_bucket a b ≡ false
not_same a b h = by (same_bucket a b) refl
  where
    by : (t : Bool) → same_bucket a b ≡ t → same_bucket a b ≡ false
    by true e = absurd (omega (arith, ap bucket_slot (exact a b e)))
    by false e = e

-- one that is the first of two in order is not the second
pub not_later : (k l m : BucketId) → bucket_id_cmp k l ≡ Less → same_bucket_id k m ≡ true → same_bucket_id l m ≡ false
not_later k l m less same =
    (eq_by_cmp_equiv id_total).symm l m ∙ ap is_eq (sym (id_total.congr k m l (is_eq-Equal _ same)) ∙ less)

pub filter_none : {X : Type 0} (t : X → Bool) (xs : List X) → AllByRecursion (λ x. t x ≡ false) xs → filter t xs ≡ []
filter_none t [] h = refl
filter_none t (x ∷ xs) h = ap (λ b. cond b (x ∷ filter t xs) (filter t xs)) h.0 ∙ filter_none t xs h.1

pub never : {X : Type 0} (xs : List X) → AllByRecursion (λ x. false ≡ false) xs
never [] = tt
never (x ∷ xs) = (refl, never xs)

-- ---- sums that are not negative

pub each_within : {X : Type 0} (f : X → ℤ) (n : ℤ) (xs : List X) → AllByRecursion (λ x. pos 0 ≤ℤ f x) xs → total_by f xs ≤ℤ n → AllByRecursion (λ x. f x ≤ℤ n) xs
each_within f n [] low h = tt
each_within f n (x ∷ xs) low h = (omega (arith, ints, total_low f xs low.1), each_within f n xs low.1 (omega (arith, ints, low.0)))

pub total_kept : {X : Type 0} (f : X → ℤ) (t : X → Bool) (xs : List X) → AllByRecursion (λ x. pos 0 ≤ℤ f x) xs → total_by f (filter t xs) ≤ℤ total_by f xs
total_kept f t [] low = omega (arith, ints)
total_kept f t (x ∷ xs) low = by (t x) (total_kept f t xs low.1)
  where
    by : (b : Bool) → total_by f (filter t xs) ≤ℤ total_by f xs → total_by f (cond b (x ∷ filter t xs) (filter t xs)) ≤ℤ (f x +ℤ total_by f xs)
    by true i = omega (arith, ints, i)
    by false i = omega (arith, ints, i, low.0)

-- ---- the bucket of an id

module _ {X : Type 0} (id : X → Bucket) where
  -- those after one come later
  after : (x : X) (a : Bucket) (xs : List X) → bucket_slot (id x) ≤ bucket_slot a → AreInOrder (a ∷ map id xs) → AllByRecursion (λ y. bucket_slot (id x) < bucket_slot (id y)) xs
  after x a [] h order = tt
  after x a (y ∷ ys) h order = let next : bucket_slot a < bucket_slot (id y) = order.0 in (omega arith, after x (id y) ys (omega arith) order.1)

  rest_in_order : (a : Bucket) (xs : List X) → AreInOrder (a ∷ map id xs) → AreInOrder (map id xs)
  rest_in_order a [] order = tt
  rest_in_order a (x ∷ xs) order = order.1

  abbrev pub is_at : BucketId → X → Bool
  is_at k x = same_bucket_id k (bucket_id_of (id x))

  -- the one bucket of an id
  pub record IsFound (b : Bucket) (xs : List X) : Type 0 where
    pub of : X
    pub found : find (λ y. same_bucket b (id y)) xs ≡ Some of
    pub is : b ≡ id of
    pub alone : filter (is_at (bucket_id_of b)) xs ≡ of ∷ []

  none_later : (b : Bucket) (x : X) (ys : List X) → b ≡ id x → AllByRecursion (λ y. bucket_slot (id x) < bucket_slot (id y)) ys → AllByRecursion (λ y. is_at (bucket_id_of b) y ≡ false) ys
  none_later b x ys e h = each_weaker (λ y. bucket_slot (id x) < bucket_slot (id y)) (λ y. is_at (bucket_id_of b) y ≡ false) (λ y less. bucket_ids b (id y) ∙ ap (λ a. same_bucket a (id y)) e ∙ not_same (id x) (id y) less) ys h

  pub find_listed : (b : Bucket) (xs : List X) → AreInOrder (map id xs) → lists (map id xs) b ≡ true → IsFound b xs
  find_listed b [] order h = absurd (false≢true h)
  find_listed b (x ∷ xs) order h = by (same_bucket b (id x)) refl h (find_listed b xs (rest_in_order (id x) xs order))
    where
      here : (t : Bool) → same_bucket b (id x) ≡ t → filter (is_at (bucket_id_of b)) (x ∷ xs) ≡ cond t (x ∷ filter (is_at (bucket_id_of b)) xs) (filter (is_at (bucket_id_of b)) xs)
      here t e = ap (λ u. cond u (x ∷ filter (is_at (bucket_id_of b)) xs) (filter (is_at (bucket_id_of b)) xs)) (bucket_ids b (id x) ∙ e)

      by : (t : Bool) → same_bucket b (id x) ≡ t → (t || lists (map id xs) b) ≡ true → (lists (map id xs) b ≡ true → IsFound b xs) → IsFound b (x ∷ xs)
      by true e l later =
          let is = exact b (id x) e in
          record {
            of = x;
            found = ap (λ t. cond t (Some x) (find (λ y. same_bucket b (id y)) xs)) e;
            is = is;
            alone = here true e ∙ ap (λ ys. x ∷ ys) (filter_none (is_at (bucket_id_of b)) xs (none_later b x xs is (after x (id x) xs (le_refl (bucket_slot (id x))) order)));
          }
      by false e l later =
          let rest = later l in
          record {
            of = rest.of;
            found = ap (λ t. cond t (Some x) (find (λ y. same_bucket b (id y)) xs)) e ∙ rest.found;
            is = rest.is;
            alone = here false e ∙ rest.alone;
          }

  -- one that is found is listed
  pub some_listed : (b : Bucket) (xs : List X) → is_some (find (λ y. same_bucket b (id y)) xs) ≡ true → lists (map id xs) b ≡ true
  some_listed b [] h = absurd (false≢true h)
  some_listed b (x ∷ xs) h = by (same_bucket b (id x)) h (some_listed b xs)
    where
      by : (t : Bool) → is_some (cond t (Some x) (find (λ y. same_bucket b (id y)) xs)) ≡ true → (is_some (find (λ y. same_bucket b (id y)) xs) ≡ true → lists (map id xs) b ≡ true) → (t || lists (map id xs) b) ≡ true
      by true h later = refl
      by false h later = later h

pub some_mapped : {X Y : Type 0} (y : Y) (f : X → Y) (o : Option X) → Some y ≡ option_map f o → is_some o ≡ true
some_mapped y f None e = absurd (cc)
some_mapped y f (Some x) e = refl
